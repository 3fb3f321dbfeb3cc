pub mod EntryLemmas
pub mod PlaceLemmas
pub mod WireLemmas
pub mod TableLemmas
pub mod RenameLemmas
pub mod NumberLemmas
pub mod EndLemmas
