pub mod CommandLemmas
pub mod FormLemmas
pub mod NumberLemmas
pub mod PrefixLemmas
pub mod ReadLemmas
pub mod StepLemmas
