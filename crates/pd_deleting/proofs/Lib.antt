pub mod DeleteLemmas
pub mod PortLemmas
pub mod AfterLemmas
