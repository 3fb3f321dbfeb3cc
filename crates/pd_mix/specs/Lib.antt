pub mod Samples
pub mod Sums
