pub mod Gathering
pub mod Messages
pub mod Paths
pub mod Pieces
pub mod Refusals
pub mod Lines
