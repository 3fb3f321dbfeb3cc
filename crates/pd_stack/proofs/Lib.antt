pub mod StackLemmas
pub mod PileLemmas
pub mod TurnLemmas
pub mod SendLemmas
