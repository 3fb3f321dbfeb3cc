pub mod Misfits
pub mod Ports
pub mod Ranks
pub mod Shedding
