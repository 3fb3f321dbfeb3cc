pub mod Boxes
pub mod Coming
pub mod Counts
pub mod Counted
pub mod Growing
pub mod Adding
pub mod Single
pub mod Standing
