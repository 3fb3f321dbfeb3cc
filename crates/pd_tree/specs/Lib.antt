pub mod Trees
pub mod Ports
