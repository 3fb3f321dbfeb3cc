pub mod MoreLemmas
pub mod LessLemmas
pub mod OtherLemmas
pub mod AllLemmas
pub mod PartLemmas
pub mod TakenBackLemmas
