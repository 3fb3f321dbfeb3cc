-- A box that an edit takes out of a canvas of the patch's own document.
use Rattle.std.proofs.Common.{inl, inr}
use Rattle.std.specs.Prelude.{◌≡◌, ◌⊎◌, ◌+◌, ℕ, List, [], ◌∷◌, length, map, slice_get, Option, Some, None, Result, Ok, Err}
use Rattle.slab.specs.Slab.{get}
use Rattle.pd_atom.specs.Names.{Names}
use Rattle.pd_grove.specs.declared.grove.Grove.{Grove}
use Rattle.pd_clock.specs.declared.times.Rate.{Rate}
use Rattle.pd_grove.specs.declared.ports.Side.{Side}
use Rattle.pd_grove.specs.OwnPaths.{sub_reached}
use Rattle.pd_grove.specs.Owning.{board_in}
use Rattle.pd_grove.specs.TextOrder.{cell_under}
use Rattle.pd_web.specs.Canvases.{keys_at}
use Rattle.pd_web.specs.Changes.{wires_told}
use Rattle.pd_patch.specs.declared.patch.Patch.{Patch}
use Rattle.pd_wiring.specs.declared.refusals.EditRefusal.{EditRefusal}
use Rattle.pd_wiring.specs.declared.refusals.EditRefusal.TheVariants.{NoCanvas, NoBox, NoMemory}
use Rattle.pd_wiring.specs.Changes.{SameButRoom}
use Rattle.pd_adding.specs.declared.counts.Counts.{Counts}
use Rattle.pd_adding.specs.Counted.{sound_among}
use Rattle.pd_adding.specs.Counts.{counts_less}
use Rattle.pd_taking.specs.Loosening.{looks_for, Gone}
use Rattle.pd_clearing.specs.Clearing.{IsCleared}
use Rattle.pd_leaving.specs.Leaving.{CanTakePort, IsPortTaken}
use Rattle.pd_leaving.specs.Wires.{port_wires}
pub use Rattle.pd_clearing.specs.Clearing.{without_all}
pub use Rattle.pd_clearing.specs.Losing.{looks_for_all}
use Rattle.pd_deleting.specs.declared.deleting.OldBox.{OldBox}

abbrev pub going_box : Grove → ℕ → ℕ → Option ℕ → Result (ℕ × ℕ) EditRefusal
going_box g canvas number None = Err (NoBox number)
going_box g canvas number (Some key) = Ok (canvas, key)

abbrev pub going_in : Grove → ℕ → Option ℕ → Result (ℕ × ℕ) EditRefusal
going_in g number None = Err NoCanvas
going_in g number (Some canvas) = going_box g canvas number (slice_get (keys_at g canvas) number)

-- the keys of the canvas at a path of the patch's own document and of its box of a number, or the first reason why that can't go
abbrev pub going : Patch → List ℕ → ℕ → Result (ℕ × ℕ) EditRefusal
going p path number = going_in p.grove number (sub_reached p.grove (Some p.grove.root) path)

-- the looks for wires that went in the canvas around, where one lies around
abbrev pub looks_around : Option ℕ → List Gone → Patch → ℕ
looks_around None gone q = 0
looks_around (Some canvas) gone q = looks_for canvas gone q

-- how many values of tables, arrays and delay lines the boxes of these keys keep
abbrev pub values_of : Rate → Grove → List ℕ → ℕ
values_of rate g keys = sound_among rate (map (cell_under (get g.nodes)) keys)

-- The box of a number, which is no port of a box around, went from the canvas at a path, with all that lay in it and with its wires. `n` were the
-- counts of the patch. All else stays, but that there may be more room.
pub record ClearsBox (old new : Patch) (n : Counts) (table : Names) (path : List ℕ) (number steps steps' : ℕ) (b : OldBox) : Type 0 where
  pub is : going old path number ≡ Ok (b.canvas, b.key)
  pub ready : Patch
  pub room : SameButRoom old ready
  pub cleared : IsCleared ready new table (record { canvas = b.canvas; number = number }) b.key steps steps'
  pub counts : b.counts ≡ counts_less n (length cleared.part) (values_of old.rate old.grove cleared.part) (wires_told new.web)
  pub none_around : b.around ≡ None
  pub none_gone : b.gone.items ≡ []

-- The box of a number, which is a port of the box around, went from the canvas at a path with its wires; the box around lost the port, and the wires at
-- that are gone. All else stays, but that there may be more room.
pub record TakesPort (old new : Patch) (n : Counts) (table : Names) (path : List ℕ) (number steps steps' : ℕ) (b : OldBox) : Type 0 where
  pub is : going old path number ≡ Ok (b.canvas, b.key)
  pub holder : ℕ
  pub side : Side
  pub port : ℕ
  pub ready : Patch
  pub room : SameButRoom old ready
  pub can : CanTakePort ready (record { canvas = b.canvas; number = number }) b.key holder side port
  pub taken : IsPortTaken ready new table (record { canvas = b.canvas; number = number }) b.key holder side port steps steps'
  pub counts : b.counts ≡ counts_less n 1 (values_of old.rate old.grove (b.key ∷ [])) (wires_told new.web)
  pub around : b.around ≡ board_in (get old.grove.nodes holder)
  pub gone : b.gone.items ≡ port_wires ready holder side port

-- an edit took a box out
abbrev pub DeletesBox : Patch → Patch → Counts → Names → List ℕ → (number steps steps' : ℕ) → OldBox → Type 0
DeletesBox old new n table path number steps steps' b =
    ClearsBox old new n table path number steps steps' b ⊎ TakesPort old new n table path number steps steps' b

module _ (old new : Patch) (n : Counts) (table : Names) (path : List ℕ) (number steps steps' : ℕ) (b : OldBox) where
  -- the boxes that went
  abbrev pub part_gone : DeletesBox old new n table path number steps steps' b → List ℕ
  part_gone (inl x) = x.cleared.part
  part_gone (inr x) = b.key ∷ []

  -- no more signal wires were looked at than the mends for the wires that went take
  abbrev pub looks_gone : DeletesBox old new n table path number steps steps' b → ℕ
  looks_gone (inl x) = looks_for_all x.cleared.lost x.cleared.loose
  looks_gone (inr x) = looks_around b.around x.taken.loosens.gone x.taken.loose + looks_for b.canvas x.taken.own.gone x.taken.ready

-- the box could go, and memory was wanting
pub record IsShortOfRoom (old new : Patch) (path : List ℕ) (number : ℕ) : Type 0 where
  pub box : ℕ × ℕ
  pub is : going old path number ≡ Ok box
  pub room : SameButRoom old new

-- it is refused for this, and the patch stays; or the box could go, memory was wanting, and there may be more room
abbrev pub IsNotDeleted : Patch → Patch → List ℕ → ℕ → EditRefusal → Type 0
IsNotDeleted old new path number why = ((new ≡ old) × (going old path number ≡ Err why)) ⊎ ((why ≡ NoMemory) × IsShortOfRoom old new path number)
