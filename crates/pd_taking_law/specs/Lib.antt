pub mod Takes
pub mod Taking
