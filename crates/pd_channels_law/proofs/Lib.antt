pub mod WordLemmas
pub mod GrowthLemmas
