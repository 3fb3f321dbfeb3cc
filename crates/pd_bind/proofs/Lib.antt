pub mod OwningLemmas
pub mod FindLemmas
