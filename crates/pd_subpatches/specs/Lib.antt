pub mod Grove
pub mod Shell
