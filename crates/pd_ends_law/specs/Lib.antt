pub mod Ends
pub mod Once
