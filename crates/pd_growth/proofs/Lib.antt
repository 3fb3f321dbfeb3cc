pub mod SupplyLemmas
pub mod TextLemmas
pub mod NameLemmas
pub mod SuitLemmas
pub mod StepLemmas
pub mod FileLemmas
pub mod GrownLemmas
