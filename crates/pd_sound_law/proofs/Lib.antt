pub mod SlotLemmas
pub mod RowLemmas
pub mod FreeLemmas
pub mod ReadyLemmas
