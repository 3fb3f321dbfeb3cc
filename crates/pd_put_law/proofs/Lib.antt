pub mod RoomLemmas
pub mod WholeLemmas
pub mod LineLemmas
pub mod PartLemmas
pub mod AloneLemmas
pub mod InsideLemmas
pub mod FollowLemmas
pub mod AroundLemmas
mod HomeLemmas
pub mod PortLemmas
pub mod ComeLemmas
pub mod CountLemmas
pub mod HeadLemmas
pub mod WrittenLemmas
pub mod OwnerLemmas
pub mod PutLemmas
pub mod LastLemmas
