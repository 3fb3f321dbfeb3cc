pub mod Room
pub mod Boxes
pub mod Ends
pub mod Homes
pub mod Moves
pub mod Known
pub mod Refits
pub mod Orders
