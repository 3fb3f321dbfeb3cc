pub mod ListLemmas
pub mod JoinLemmas
pub mod GroveLemmas
pub mod ChangeLemmas
pub mod PlaceLemmas
pub mod LeafLemmas
