pub mod Cosine
pub mod Tones
pub mod Rows
