pub mod SuitLemmas
pub mod LackLemmas
pub mod KnownLemmas
pub mod AskLemmas
pub mod GatherLemmas
pub mod WalkLemmas
pub mod WayLemmas
pub mod BoxLemmas
