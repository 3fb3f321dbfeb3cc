pub mod Voices
pub mod Documents
pub mod Scripts
pub mod Tallies
pub mod Summaries
pub mod Texts
