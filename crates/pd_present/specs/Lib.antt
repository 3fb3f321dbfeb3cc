pub mod Contents
pub mod Presents
