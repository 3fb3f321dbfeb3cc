pub mod ListLemmas
pub mod BehindLemmas
pub mod FollowLemmas
pub mod NoteLemmas
pub mod BackLemmas
pub mod ReturnLemmas
pub mod RoomLemmas
pub mod LawLemmas
