pub mod KindPorts
pub mod MarkLemmas
pub mod PlaceLemmas
pub mod SeenLemmas
pub mod StackLemmas
