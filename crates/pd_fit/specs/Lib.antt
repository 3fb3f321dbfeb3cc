pub mod Fitting
pub mod Seeing
pub mod Stacking
