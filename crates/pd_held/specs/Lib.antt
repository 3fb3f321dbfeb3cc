pub mod Stores
pub mod Slopes
pub mod Rows
