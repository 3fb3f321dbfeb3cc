pub mod LengthLemmas
pub mod OnceLemmas
pub mod CountLemmas
pub mod FewLemmas
pub mod SoundLemmas
