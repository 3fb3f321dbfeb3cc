pub mod Index
pub mod Kept
pub mod Queue
pub mod Rates
pub mod Slots
