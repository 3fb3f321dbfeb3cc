pub mod Ports
pub mod RowNames
pub mod Lends
