pub mod SampleLemmas
pub mod OwnLemmas
