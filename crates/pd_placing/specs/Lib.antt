pub mod Room
pub mod Placing
pub mod Groves
