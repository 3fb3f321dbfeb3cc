pub mod Refits
pub mod Room
