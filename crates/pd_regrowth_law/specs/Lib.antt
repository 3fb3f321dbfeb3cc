pub mod Regrowth
pub mod Suits
pub mod Rewiring
pub mod Canvases
pub mod Asking
pub mod Renewal
pub mod Filling
