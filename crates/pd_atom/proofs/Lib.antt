pub mod CaseLemmas
pub mod NameLemmas
pub mod StoredLemmas
pub mod DigitLemmas
pub mod FillLemmas
pub mod TokenLemmas
pub mod LawLemmas
