pub mod SlidLemmas
pub mod SortLemmas
pub mod WireLemmas
pub mod PageLemmas
pub mod DocumentLemmas
