pub mod Slides
pub mod Sliding
pub mod Room
