pub mod DigitLemmas
pub mod TokenLemmas
pub mod AtomLemmas
pub mod StepLemmas
pub mod EditLemmas
pub mod OriginLemmas
