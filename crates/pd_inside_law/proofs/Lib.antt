pub mod WayLemmas
pub mod SameLemmas
pub mod HoldLemmas
pub mod FirstLemmas
