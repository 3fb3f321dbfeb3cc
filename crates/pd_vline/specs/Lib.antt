pub mod Ramps
pub mod Values
pub mod Taken
pub mod Rows
