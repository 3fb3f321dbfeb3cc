pub mod Steps
pub mod Making
pub mod Growth
pub mod Suits
pub mod Growing
