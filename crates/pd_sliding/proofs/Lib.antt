pub mod ListLemmas
pub mod FollowLemmas
pub mod SlideLemmas
pub mod GroveLemmas
pub mod WireLemmas
pub mod RunLemmas
pub mod CallLemmas
pub mod RoomLemmas
