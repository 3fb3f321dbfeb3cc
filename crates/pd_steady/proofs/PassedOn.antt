-- Lemmas of edits, stages and what stands at them: passed on to the crates above.
pub use Rattle.pd_guards.proofs.FactLemmas.{some-weaker, either_by}
pub use Rattle.pd_guards.proofs.MoreLemmas.{name_more, atoms_more, longer}
pub use Rattle.pd_stage.proofs.PassedOn.{found_there, leads_there}
pub use Rattle.pd_stage.proofs.EditLemmas.{Alters}
pub use Rattle.pd_stage.proofs.LeadLemmas.{joined_assoc, after-joined, choices-append, lawful_both, lawful_first, lawful_second}
pub use Rattle.pd_engine.proofs.WholeLemmas.{both_on}
