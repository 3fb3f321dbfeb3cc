pub mod Asking
pub mod Retypes
pub mod Becoming
