pub mod LoseLemmas
pub mod LoosenLemmas
