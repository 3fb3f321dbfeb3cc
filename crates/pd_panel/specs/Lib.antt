pub mod Rows
pub mod Fold
