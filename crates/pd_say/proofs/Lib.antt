pub mod GatheringLemmas
pub mod RowLemmas
