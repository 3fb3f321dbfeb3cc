pub mod PartLemmas
pub mod LoosenLemmas
pub mod RowLemmas
pub mod ReadyLemmas
pub mod WireLemmas
pub mod ClearLemmas
pub mod SpotLemmas
