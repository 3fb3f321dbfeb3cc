pub mod Saving
pub mod Reloading
pub mod Wires
