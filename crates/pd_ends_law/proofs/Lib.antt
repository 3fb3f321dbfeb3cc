pub mod OpenLemmas
pub mod LineLemmas
pub mod RunLemmas
pub mod BlockLemmas
pub mod OnceLemmas
