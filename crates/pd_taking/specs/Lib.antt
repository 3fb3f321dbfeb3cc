pub mod Loosening
