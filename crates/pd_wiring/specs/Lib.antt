pub mod Graphs
pub mod Changes
pub mod Asking
pub mod Plans
