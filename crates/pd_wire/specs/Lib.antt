pub mod Book
pub mod Links
pub mod Stored
