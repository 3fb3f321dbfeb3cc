pub mod CountLemmas
pub mod EitherLemmas
pub mod OwnerLemmas
pub mod PathLemmas
pub mod AroundLemmas
pub mod PageLemmas
pub mod StandLemmas
