pub mod ActLemmas
pub mod PathLemmas
pub mod TurnLemmas
pub mod EntryLemmas
pub mod HistoryLemmas
