pub mod Renaming
pub mod Room
