pub mod AgainLemmas
pub mod FitLemmas
pub mod SlideLemmas
pub mod BuiltLemmas
pub mod InsideLemmas
pub mod ProperLemmas
