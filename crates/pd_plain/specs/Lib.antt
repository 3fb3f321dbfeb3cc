pub mod Values
pub mod Timed
pub mod Rows
