pub mod SettledLemmas
pub mod MadeLemmas
pub mod HearLemmas
pub mod HeldLemmas
pub mod RunLemmas
pub mod TurnLemmas
pub mod BlockLemmas
