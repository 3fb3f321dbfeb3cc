pub mod Wires
pub mod Leaving
pub mod Room
