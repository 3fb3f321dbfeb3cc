pub mod HeadLemmas
pub mod PortLemmas
pub mod TreeLemmas
pub mod LawLemmas
pub mod SavableLemmas
pub mod OwnLemmas
pub mod DistinctLemmas
pub mod DocumentCounts
