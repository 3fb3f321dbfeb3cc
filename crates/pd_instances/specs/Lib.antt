pub mod Needs
pub mod Lay
pub mod Layers
pub mod Part
pub mod Coming
pub mod Room
