mod NameLemmas
pub mod TestLemmas
