pub mod Scan
pub mod Bytes
pub mod Script
pub mod Feed
pub mod Kept
