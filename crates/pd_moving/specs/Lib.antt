pub mod Outlets
pub mod Orders
