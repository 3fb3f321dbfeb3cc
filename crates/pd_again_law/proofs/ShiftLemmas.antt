-- What the laws of pd_shift_law and pd_shifted_law say of a box that an edit moved.
use Rattle.std.proofs.Common.{◌≡◌, inl, inr, ℕ, ℤ, List, Option, ◌∙◌}
use Rattle.pd_atom.specs.Names.{Names}
use Rattle.pd_canvas.specs.Proper.{IsProper}
use Rattle.pd_clock.specs.declared.times.Rate.{Rate}
use Rattle.pd_library.specs.declared.answers.Answer.{Answer}
use Rattle.pd_tree.specs.Trees.{Tree, weight, zeros_of, document_in}
use Rattle.pd_patch.specs.declared.patch.Patch.{Patch}
use Rattle.pd_patch.specs.Sounds.{sound_of}
use Rattle.pd_hearing.specs.Worlds.{states_of}
use Rattle.pd_boxes.specs.Put.{CanPut, HasOwners}
use Rattle.pd_reload_law.specs.Reloading.{RunsAs}
use Rattle.pd_saved_law.specs.Fitting.{WiresFit}
use Rattle.pd_inside_law.specs.Inside.{HoldsWires}
use Rattle.pd_putting_law.specs.Again.{StandsAgain}
use Rattle.pd_steady.specs.PassedOn.{ShiftsBox, MovesBox, MovedBox}
use Rattle.pd_shifted_law.specs.Shifts.{shifted_at}
use Rattle.pd_again_law.proofs.HeldLemmas.{Settled}

pub record ShiftLaws : Type 0 where
  pub runs : (old new : Patch) (path : List ℕ) (number : ℕ) (x y : ℤ) (b : MovedBox) (t : Tree) → MovesBox old new path number x y b → CanPut old
      → RunsAs old.grove t → RunsAs new.grove (shifted_at path number x y t)
  pub boxes : (path : List ℕ) (number : ℕ) (x y : ℤ) (t : Tree) → weight (shifted_at path number x y t).boxes ≡ weight t.boxes
  pub sound : (rate : Rate) (path : List ℕ) (number : ℕ) (x y : ℤ) (t : Tree) → sound_of rate (shifted_at path number x y t).boxes ≡ sound_of rate t.boxes
  pub zeros : (path : List ℕ) (number : ℕ) (x y : ℤ) (t : Tree) → zeros_of (shifted_at path number x y t) ≡ zeros_of t
  pub fit : (old new : Patch) (path : List ℕ) (number : ℕ) (x y : ℤ) (b : MovedBox) → MovesBox old new path number x y b → WiresFit old → WiresFit new
  pub owners : (old new : Patch) (path : List ℕ) (number : ℕ) (x y : ℤ) (b : MovedBox) (table : Names) (file : List ℕ) → MovesBox old new path number x y b
      → HasOwners old table file → HasOwners new table file
  pub again : (old new : Patch) (path : List ℕ) (number : ℕ) (x y : ℤ) (b : MovedBox) (t : Tree) → MovesBox old new path number x y b → CanPut old
      → RunsAs old.grove t → (lib : ℕ → Option Answer) (file : List ℕ) (names : Names) → StandsAgain lib file names t
      → StandsAgain lib file names (shifted_at path number x y t)
  pub holds : (old new : Patch) (path : List ℕ) (number : ℕ) (x y : ℤ) (b : MovedBox) (t : Tree) → MovesBox old new path number x y b → CanPut old
      → RunsAs old.grove t → HoldsWires old t → HoldsWires new (shifted_at path number x y t)
  pub proper : (old new : Patch) (path : List ℕ) (number : ℕ) (x y : ℤ) (b : MovedBox) (t : Tree) (later : Names) → MovesBox old new path number x y b
      → CanPut old → RunsAs old.grove t → IsProper later (document_in t) → IsProper later (document_in (shifted_at path number x y t))
  pub contents : (old new : Patch) (path : List ℕ) (number : ℕ) (x y : ℤ) (b : MovedBox) (names : Names) → MovesBox old new path number x y b → CanPut old
      → Settled old names (states_of old) → Settled new names (states_of new)

-- the patch runs on at its rate
pub same_rate : (old new : Patch) (path : List ℕ) (number : ℕ) (x y : ℤ) (b : MovedBox) → MovesBox old new path number x y b → new.rate ≡ old.rate
same_rate old new path number x y b moves = by moves.shifts
  where
    by : ShiftsBox old new b.canvas b.key x y → new.rate ≡ old.rate
    by (inl s) = s.rest.rate
    by (inr s) = s.slid.rest.rate ∙ s.room.rate
