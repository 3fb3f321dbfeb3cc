-- That boxes find what they look for, and what they keep.
use Rattle.std.specs.Prelude.{◌≡◌, ℕ, List, slice_get, Option, Some, None, IsSome, option_map, option_and_then}
use Rattle.std.specs.List.{AllByRecursion}
use Rattle.slab.specs.Slab.{get}
use Rattle.pd_canvas.specs.declared.edits.Edit.{Edit}
use Rattle.pd_canvas.specs.declared.edits.Edit.TheVariants as edit
use Rattle.pd_object.specs.declared.kinds.Kind.{Kind}
use Rattle.pd_kind.specs.declared.states.State.{State}
use Rattle.pd_kind.specs.Fit.{blank}
use Rattle.pd_grove.specs.Telling.{keys_in}
use Rattle.pd_owning.specs.Parts.{LiesWithin}
use Rattle.pd_hearing.specs.Worlds.{Net}
use Rattle.pd_block.specs.Blocks.{owner_of}
use Rattle.pd_sized.specs.Sizes.{Finds}
use Rattle.pd_stage.specs.Choices.{Wanted, Edits, Asks, Choice, Refuses, Lacks, Makes}
use Rattle.pd_stage.specs.Stages.{Stage, Taken}
use Rattle.pd_engine.specs.Commands.{led_to}

-- a box that looks for another one finds it in the first owner of the name
abbrev pub OwnersServe : Stage → Type 0
OwnersServe s = (k : Kind) (o : ℕ) → owner_of s.net.owners k ≡ Some o → Finds k (s.states o)

-- the box of a number in the canvas at a path
abbrev pub box_of : Net → List ℕ → ℕ → Option ℕ
box_of net path number = option_and_then (λ c. slice_get (keys_in (get net.boards c)) number) (led_to net (Some net.root) path)

-- the edit in the canvas at a path deletes the box, or one in which it lies, or makes it another one, where it is made
abbrev pub EndsIn : Net → List ℕ → Edit → ℕ → Type 0
EndsIn net path (edit.Delete number) k = (top : ℕ) × (box_of net path number ≡ Some top) × LiesWithin net.nodes (get net.boards) top k
EndsIn net path (edit.Retype number text) k = box_of net path number ≡ Some k
EndsIn net path e k = ⊥

-- the same of all that is wanted of the patch's own document
abbrev pub Ends : Net → Wanted → ℕ → Type 0
Ends net (Edits None path e) k = EndsIn net path e k
Ends net (Asks path e) k = EndsIn net path e k
Ends net wanted k = ⊥

-- what comes to this leaves a box as it is: it isn't made, or doesn't delete that box or one around it, or make it another one
abbrev pub LeavesBox : ℕ → Net → Wanted → Choice → Type 0
LeavesBox k net wanted (Refuses reason) = Unit {0}
LeavesBox k net wanted (Lacks more) = Unit {0}
LeavesBox k net wanted (Makes m) = Ends net wanted k → ⊥

-- none of these edits deletes the box or one around it, or makes it another one
abbrev pub LeaveBox : ℕ → List Taken → Type 0
LeaveBox k edits = AllByRecursion (λ (t : Taken). LeavesBox k t.found.net t.wanted t.choice) edits

-- each box that was there, and that none of these edits deletes, by itself or with a box around it, or makes another one, keeps what is of the same
-- objects as what it kept: only its values are others
abbrev pub StayAlike : List Taken → (ℕ → Option State) → (ℕ → Option State) → Type 0
StayAlike edits old new = (k : ℕ) → IsSome (old k) → LeaveBox k edits → option_map blank (new k) ≡ option_map blank (old k)
