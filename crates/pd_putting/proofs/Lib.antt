mod TextLemmas
mod ComingLemmas
mod PlaceLemmas
mod GrownLemmas
mod StayLemmas
mod LastLemmas
mod LeafLemmas
mod SeedLemmas
mod PortLemmas
pub mod KeyLemmas
pub mod PartLemmas
mod HolderLemmas
pub mod AddLemmas
mod UntoldLemmas
pub mod SubLemmas
pub mod WireLemmas
