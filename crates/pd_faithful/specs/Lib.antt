pub mod Scripts
pub mod Points
pub mod Whole
pub mod Complete
pub mod Laws
