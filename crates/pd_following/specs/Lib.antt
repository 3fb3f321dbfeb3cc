pub mod Raising
pub mod Ports
pub mod Room
