pub mod Order
pub mod Worlds
pub mod Freely
pub mod Growing
pub mod Sounds
pub mod Near
