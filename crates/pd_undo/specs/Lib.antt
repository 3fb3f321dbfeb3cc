pub mod Acts
pub mod Inverses
pub mod Codes
pub mod Histories
pub mod Kept
