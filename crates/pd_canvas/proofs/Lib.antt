pub mod WireLemmas
pub mod SizeLemmas
pub mod TreeLemmas
pub mod SortLemmas
pub mod SoundLemmas
