pub mod Retypes
pub mod Retyping
pub mod Edits
