pub mod Steps
pub mod Laws
pub mod EscapeLemmas
pub mod Relation
pub mod Rest
pub mod Marks
pub mod Runs
