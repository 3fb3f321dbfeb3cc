pub mod OwnerLemmas
pub mod WireLemmas
pub mod BoxLemmas
pub mod BuiltLemmas
pub mod RoomLemmas
pub mod WriteLemmas
pub mod PlaceLemmas
