pub mod MoveLemmas
pub mod PortLemmas
