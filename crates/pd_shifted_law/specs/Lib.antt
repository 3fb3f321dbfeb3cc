pub mod Shifts
pub mod Ports
