pub mod Naming
pub mod Owning
