pub mod Graph
pub mod Spots
pub mod Heap
pub mod Work
pub mod Listing
pub mod Window
pub mod Laws
pub mod Wired
