pub mod KnownLemmas
pub mod ResultLemmas
pub mod TableLemmas
pub mod WorldLemmas
pub mod HearLemmas
pub mod BriefLemmas
