pub mod RowLemmas
pub mod LinkLemmas
