-- A patch that opened from what a running patch saved, beside that patch.
use Rattle.std.specs.Prelude.{◌≡◌, ◌≤◌, ℕ, true, List, ◌∷◌, map, slice_get, Option, Some}
use Rattle.std.specs.List.{AllByRecursion}
use Rattle.pd_atom.specs.Names.{Names}
use Rattle.pd_name.specs.declared.Class.{Class}
use Rattle.pd_name.specs.Rows.{owners_of}
use Rattle.pd_tree.specs.Trees.{Tree, Trees}
use Rattle.pd_grove.specs.declared.grove.Grove.{Grove}
use Rattle.pd_grove.specs.Standing.{GroveStands}
use Rattle.pd_grove.specs.TextOrder.{deep, placed_in_order, keys_in_order}
use Rattle.pd_bind.specs.Naming.{canvas_symbol, owned_by}
use Rattle.pd_bind.specs.Owning.{root_owner}
use Rattle.pd_present.specs.Presents.{number_in}
use Rattle.pd_patch.specs.declared.patch.Patch.{Patch}
use Rattle.pd_patch.specs.Values.{chain_in, stuck_in}
use Rattle.pd_patch.specs.Wired.{IsWired}
use Rattle.pd_wiring.specs.Changes.{CanRewire}
use Rattle.pd_reload_law.specs.Saving.{tree_now, AreMade}
use Rattle.pd_saved_law.specs.Fitting.{WiresFit}

-- the tree of a running patch as it stands, which grew as this one
abbrev pub now_of : Patch → Tree → Tree
now_of p t = tree_now p.grove p.web p.numbers.items t

-- The patch q has grown to the tree of the running patch p as it stands, which grew as t. In both an edit of wires finds what it asks, and the
-- wires of p fit.
pub record HasOpened (p : Patch) (t : Tree) (q : Patch) : Type 0 where
  pub runs : CanRewire p
  pub fit : WiresFit p
  pub stands : GroveStands p.grove t.sheet t.boxes
  pub shallow : deep t.boxes ≤ 256
  pub made : AreMade t.boxes
  pub opened : CanRewire q
  pub again : GroveStands q.grove (now_of p t).sheet (now_of p t).boxes
  pub wired : IsWired q.grove q.web (now_of p t)

-- boxes by their numbers in their canvas
abbrev pub by_number : Patch → List ℕ → List ℕ
by_number p keys = map (number_in p.numbers.items) keys

-- Two canvases, of one patch and of another, in which the boxes of the same numbers run, in the same order, and those of the same numbers are stuck.
pub record HaveSameOrder (p : Patch) (c : ℕ) (q : Patch) (d : ℕ) : Type 0 where
  pub chain : by_number q (chain_in q d) ≡ by_number p (chain_in p c)
  pub stuck : by_number q (stuck_in q d) ≡ by_number p (stuck_in p c)

-- the owner at a place: the root canvas is the first, and then come all boxes in text order
abbrev pub owner_at : Grove → ℕ → Option ℕ
owner_at g place = slice_get (root_owner ∷ keys_in_order g) place

-- In both tables the root canvas of this file name, and each box of a tree, owns the same name.
pub record OwnAlike (names more : Names) (file : List ℕ) (t : Trees) : Type 0 where
  pub root : canvas_symbol more file ≡ canvas_symbol names file
  pub boxes : AllByRecursion (λ p. owned_by more p.is_top p.cell ≡ owned_by names p.is_top p.cell) (placed_in_order true t)

-- In both patches those at the same places own the name, in the same order.
pub record HaveSameOwners (p q : Patch) (class : Class) (name : ℕ) : Type 0 where
  pub places : List ℕ
  pub before : map (λ k. Some k) (owners_of p.names class name) ≡ map (owner_at p.grove) places
  pub opened : map (λ k. Some k) (owners_of q.names class name) ≡ map (owner_at q.grove) places
