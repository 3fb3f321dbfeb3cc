-- Two ways to do tasks that give the same: passed on to the crates above.
pub use Rattle.pd_keeping_law.proofs.SameTurns.{Agree, agree_self, After, Same, all_same}
