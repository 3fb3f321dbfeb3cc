pub mod EditLemmas
pub mod OpenLemmas
pub mod CanvasLemmas
pub mod WireLemmas
pub mod PortLemmas
pub mod FitLemmas
pub mod ProperLemmas
pub mod RunLemmas
