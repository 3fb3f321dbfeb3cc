pub mod Acts
pub mod Outcome
pub mod Ways
pub mod Relays
