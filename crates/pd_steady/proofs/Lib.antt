pub mod PassedOn
pub mod AddedLemmas
pub mod ServeLemmas
pub mod NearLemmas
pub mod ShortLemmas
pub mod StartLemmas
pub mod NetLemmas
pub mod KeyLemmas
pub mod NewLemmas
pub mod FollowLemmas
pub mod ComeLemmas
pub mod LessLemmas
pub mod LooseLemmas
mod BackLemmas
pub mod LeaveLemmas
pub mod StandLemmas
pub mod ExtendLemmas
pub mod PutLemmas
pub mod TakeLemmas
pub mod AlikeLemmas
pub mod MoveLemmas
pub mod RetypeLemmas
pub mod OwnLemmas
pub mod FairLemmas
pub mod TreeLemmas
pub mod EventLemmas
pub mod TimeLemmas
pub mod RunLemmas
mod ToldLemmas
mod LoopLemmas
mod MadeLemmas
mod LastLemmas
mod OwnersLemmas
