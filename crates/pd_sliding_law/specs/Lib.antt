pub mod Slid
