pub mod BoundLemmas
pub mod RunLemmas
