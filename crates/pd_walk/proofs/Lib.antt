pub mod WayLemmas
pub mod ActLemmas
pub mod StayLemmas
pub mod RelayLemmas
