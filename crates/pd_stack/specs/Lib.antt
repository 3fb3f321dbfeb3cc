pub mod Tasks
pub mod Pile
pub mod Piles
pub mod Turns
