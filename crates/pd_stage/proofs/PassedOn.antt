-- Lemmas of boxes that come, go and move: passed on to the crates above.
pub use Rattle.pd_putting.proofs.WireLemmas.{part_wires}
pub use Rattle.pd_deleting.proofs.DeleteLemmas.{box_lives, found_there, leads_there}
pub use Rattle.pd_shifting.proofs.MoveLemmas.{is_moving, still_put}
