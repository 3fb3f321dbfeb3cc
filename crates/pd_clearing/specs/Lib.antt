pub mod Losing
pub mod Clearing
pub mod Layers
