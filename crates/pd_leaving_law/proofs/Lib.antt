pub mod WireLemmas
pub mod DocumentLemmas
