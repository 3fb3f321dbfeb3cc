pub mod Causes
pub mod Commands
pub mod Edits
pub mod Messages
pub mod Opening
pub mod Refusals
pub mod Remarks
pub mod Stages
