pub mod Nets
pub mod Orders
