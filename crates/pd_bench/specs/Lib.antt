pub mod Boxes
pub mod Objects
