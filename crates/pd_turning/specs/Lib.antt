pub mod Notes
pub mod Room
pub mod Returns
