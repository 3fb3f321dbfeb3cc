-- The wires of a patch where an edit deleted a box, a port of the box around or none.
use Rattle.std.proofs.Common.{ℕ, List, inl, inr}
use Rattle.pd_atom.specs.Names.{Names}
use Rattle.pd_tree.specs.Trees.{Tree}
use Rattle.pd_web.specs.Changes.{Meet}
use Rattle.pd_patch.specs.declared.patch.Patch.{Patch}
use Rattle.pd_boxes.specs.Put.{CanPut}
use Rattle.pd_reload_law.specs.Reloading.{RunsAs}
use Rattle.pd_saved_law.specs.Fitting.{WiresFit}
use Rattle.pd_inside_law.specs.Inside.{HoldsWires}
use Rattle.pd_taking_law.specs.Takes.{taken_at}
use Rattle.pd_adding.specs.declared.counts.Counts.{Counts}
use Rattle.pd_deleting.specs.declared.deleting.OldBox.{OldBox}
use Rattle.pd_deleting.specs.Deletes.{DeletesBox}
use Rattle.pd_take_law.proofs.FitLemmas.{still_fit}
use Rattle.pd_take_law.proofs.InsideLemmas.{still_holds}
use Rattle.pd_take_law.proofs.DeletedLemmas.{cleared_went}
use Rattle.pd_take_law.proofs.PortLemmas.{port_fits, port_holds}

module _ (old new : Patch) (n : Counts) (table : Names) (path : List ℕ) (number steps steps' : ℕ) (b : OldBox) (C : CanPut old) where
  pub wires_fit : DeletesBox old new n table path number steps steps' b → WiresFit old → WiresFit new
  wires_fit (inl X) f = still_fit old new path b.canvas b.key number X.cleared.part (cleared_went old new n table path number steps steps' b X C) C f
  wires_fit (inr X) f = port_fits old new n table path number steps steps' b X C f

  pub wires_hold : DeletesBox old new n table path number steps steps' b → Meet old.web → (t : Tree) → RunsAs old.grove t → HoldsWires old t → HoldsWires new (taken_at path number t)
  wires_hold (inl X) meet t R h = still_holds old new path b.canvas b.key number X.cleared.part (cleared_went old new n table path number steps steps' b X C) C meet t R h
  wires_hold (inr X) meet t R h = port_holds old new n table path number steps steps' b X C t R h
