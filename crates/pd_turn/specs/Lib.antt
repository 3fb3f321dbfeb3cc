pub mod Held
pub mod Pairs
pub mod Rows
pub mod Sizes
