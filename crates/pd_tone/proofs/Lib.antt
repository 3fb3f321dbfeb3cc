pub mod Table
pub mod Points
pub mod Circle
pub mod Proportions
pub mod Blocks
pub mod Turning
pub mod Shares
pub mod Steady
