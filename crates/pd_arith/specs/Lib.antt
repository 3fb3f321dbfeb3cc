pub mod Operations
pub mod Frequency
pub mod Rows
