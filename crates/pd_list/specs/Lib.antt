pub mod Outlets
pub mod Slots
pub mod Choices
pub mod Lists
pub mod Rows
