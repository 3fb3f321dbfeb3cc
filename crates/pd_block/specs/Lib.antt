pub mod Nets
pub mod Inlets
pub mod Given
pub mod Blocks
