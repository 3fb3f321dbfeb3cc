pub mod Puts
pub mod Putting
pub mod Again
pub mod Edits
