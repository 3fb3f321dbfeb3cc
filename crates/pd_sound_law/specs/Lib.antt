pub mod Freely
pub mod Ready
