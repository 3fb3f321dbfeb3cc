pub mod BoxLemmas
pub mod GrowLemmas
