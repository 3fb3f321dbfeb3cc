-- What the laws of pd_take_law say of a box that an edit deleted.
use Rattle.std.proofs.Common.{◌≡◌, inl, inr, ℕ, List, Option, ◌∙◌}
use Rattle.pd_atom.specs.Names.{Names}
use Rattle.pd_canvas.specs.Proper.{IsProper}
use Rattle.pd_library.specs.declared.answers.Answer.{Answer}
use Rattle.pd_tree.specs.Trees.{Tree, weight, document_in}
use Rattle.pd_web.specs.Changes.{Meet}
use Rattle.pd_patch.specs.declared.patch.Patch.{Patch}
use Rattle.pd_patch.specs.Sounds.{sound_of}
use Rattle.pd_hearing.specs.Worlds.{states_of}
use Rattle.pd_boxes.specs.Put.{CanPut, HasOwners}
use Rattle.pd_reload_law.specs.Reloading.{RunsAs}
use Rattle.pd_saved_law.specs.Fitting.{WiresFit}
use Rattle.pd_inside_law.specs.Inside.{HoldsWires}
use Rattle.pd_putting_law.specs.Again.{StandsAgain}
use Rattle.pd_taking_law.specs.Takes.{taken_at}
use Rattle.pd_adding.specs.declared.counts.Counts.{Counts}
use Rattle.pd_steady.specs.PassedOn.{OldBox, DeletesBox}
use Rattle.pd_again_law.proofs.HeldLemmas.{Settled}

pub record TakeLaws : Type 0 where
  pub runs : (old new : Patch) (n : Counts) (table : Names) (path : List ℕ) (number steps steps' : ℕ) (b : OldBox) (t : Tree)
      → DeletesBox old new n table path number steps steps' b → CanPut old → RunsAs old.grove t → RunsAs new.grove (taken_at path number t)
  pub again : (old new : Patch) (n : Counts) (table : Names) (path : List ℕ) (number steps steps' : ℕ) (b : OldBox) (t : Tree)
      → DeletesBox old new n table path number steps steps' b → CanPut old → RunsAs old.grove t
      → (lib : ℕ → Option Answer) (file : List ℕ) (names : Names) → StandsAgain lib file names t → StandsAgain lib file names (taken_at path number t)
  pub holds : (old new : Patch) (n : Counts) (table : Names) (path : List ℕ) (number steps steps' : ℕ) (b : OldBox) (t : Tree)
      → DeletesBox old new n table path number steps steps' b → CanPut old → RunsAs old.grove t → HoldsWires old t → HoldsWires new (taken_at path number t)
  pub fit : (old new : Patch) (n : Counts) (table : Names) (path : List ℕ) (number steps steps' : ℕ) (b : OldBox)
      → DeletesBox old new n table path number steps steps' b → CanPut old → Meet old.web → WiresFit old → WiresFit new
  pub owners : (old new : Patch) (n : Counts) (table : Names) (path : List ℕ) (number steps steps' : ℕ) (b : OldBox)
      → DeletesBox old new n table path number steps steps' b → (file : List ℕ) → HasOwners old table file → HasOwners new table file
  pub boxes : (old new : Patch) (n : Counts) (table : Names) (path : List ℕ) (number steps steps' : ℕ) (b : OldBox) (t : Tree)
      → DeletesBox old new n table path number steps steps' b → CanPut old → RunsAs old.grove t → n.boxes ≡ weight t.boxes
      → b.counts.boxes ≡ weight (taken_at path number t).boxes
  pub sound : (old new : Patch) (n : Counts) (table : Names) (path : List ℕ) (number steps steps' : ℕ) (b : OldBox) (t : Tree)
      → DeletesBox old new n table path number steps steps' b → CanPut old → RunsAs old.grove t → n.sound ≡ sound_of old.rate t.boxes
      → b.counts.sound ≡ sound_of old.rate (taken_at path number t).boxes
  pub proper : (old new : Patch) (n : Counts) (table : Names) (path : List ℕ) (number steps steps' : ℕ) (b : OldBox) (t : Tree) (later : Names)
      → DeletesBox old new n table path number steps steps' b → CanPut old → RunsAs old.grove t → IsProper later (document_in t)
      → IsProper later (document_in (taken_at path number t))
  pub contents : (old new : Patch) (n : Counts) (table : Names) (path : List ℕ) (number steps steps' : ℕ) (b : OldBox) (names : Names)
      → DeletesBox old new n table path number steps steps' b → CanPut old → Settled old names (states_of old) → Settled new names (states_of new)

-- the patch runs on at its rate
pub same_rate : (old new : Patch) (n : Counts) (table : Names) (path : List ℕ) (number steps steps' : ℕ) (b : OldBox)
    → DeletesBox old new n table path number steps steps' b → new.rate ≡ old.rate
same_rate old new n table path number steps steps' b (inl x) = x.cleared.rate ∙ x.room.rate
same_rate old new n table path number steps steps' b (inr x) =
    x.taken.leaves.rest.rate ∙ x.taken.goes.rate ∙ x.taken.own.rest.rate ∙ x.taken.loosens.rest.rate ∙ x.room.rate
