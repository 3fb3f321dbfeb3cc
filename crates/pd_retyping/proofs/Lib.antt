mod TextLemmas
pub mod AskLemmas
mod AlikeLemmas
mod SeedLemmas
mod BecomeLemmas
mod ReadyLemmas
mod MakeLemmas
mod TakeLemmas
pub mod RetypeLemmas
mod UntoldLemmas
