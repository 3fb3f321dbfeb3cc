pub mod ListLemmas
pub mod MeetLemmas
pub mod PlaceLemmas
pub mod LiftLemmas
pub mod LayLemmas
pub mod OrderLemmas
pub mod MoveLemmas
