pub mod Fetching
pub mod Gather
pub mod Steps
pub mod Refusals
pub mod Boxes
