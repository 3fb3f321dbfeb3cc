pub mod Entries
pub mod Wires
pub mod Tables
pub mod Numbers
