mod ListLemmas
mod FillLemmas
mod LiveLemmas
mod BoxLemmas
mod EndLemmas
mod HomeLemmas
mod CloseLemmas
pub mod TakeLemmas
mod MoveLemmas
mod ListedLemmas
mod SpotLemmas
mod SetLemmas
mod MeetLemmas
pub mod OnceLemmas
mod KnownLemmas
mod FollowLemmas
mod RefitLemmas
mod OrderLemmas
