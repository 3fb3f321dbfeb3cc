pub mod Scale
pub mod Numeral
pub mod Reading
pub mod Cut
pub mod Printing
