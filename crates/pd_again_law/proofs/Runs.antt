-- Lemmas of steady runs, of what they put one after another and of names: passed on to the crates above.
pub use Rattle.pd_steady.proofs.PassedOn.{either_by, name_more, atoms_more, longer, Alters, joined_assoc, after-joined, choices-append, lawful_both, lawful_first, lawful_second}
pub use Rattle.pd_steady.proofs.EventLemmas.{Guards, IsFree, event_free, loads_extend}
pub use Rattle.pd_steady.proofs.ExtendLemmas.{outcome_extends}
pub use Rattle.pd_steady.proofs.FairLemmas.{AreFair, fair_first, fair_second, altered_extends, event_keeps, IsRefusal, lawful_fair}
pub use Rattle.pd_steady.proofs.OwnLemmas.{commanded_own, advanced_own, finished_own}
pub use Rattle.pd_steady.proofs.RunLemmas.{commanded_free, named_steady}
pub use Rattle.pd_steady.proofs.TimeLemmas.{advanced_free, finished_free, fired_steady, block_free}
