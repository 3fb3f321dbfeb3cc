pub mod PassedOn
pub mod Runs
pub mod Freely
pub mod Steady
pub mod Steps
pub mod Told
pub mod Serving
pub mod Laws
