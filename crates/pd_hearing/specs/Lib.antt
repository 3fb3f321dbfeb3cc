pub mod Worlds
pub mod Guards
pub mod Hearing
pub mod Deeds
pub mod Outlets
pub mod Briefs
