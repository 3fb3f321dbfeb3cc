pub mod Causes
pub mod Ending
pub mod Made
pub mod Patches
pub mod Playing
pub mod Refusing
pub mod Runs
pub mod Telling
