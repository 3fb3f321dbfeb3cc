pub mod Order
pub mod Bound
pub mod Parts
