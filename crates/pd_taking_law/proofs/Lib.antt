pub mod StayLemmas
pub mod WireLemmas
pub mod PageLemmas
pub mod StandLemmas
pub mod TreeLemmas
pub mod AgainLemmas
