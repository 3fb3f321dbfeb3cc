pub mod Names
pub mod Atoms
pub mod Tokens
pub mod Expansion
pub mod Stored
