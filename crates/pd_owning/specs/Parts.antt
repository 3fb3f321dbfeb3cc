-- A box with all that lies in it.
use Rattle.std.specs.Prelude.{◌≡◌, ◌↔◌, ◌-◌, ℕ, true, List, Option, Some, IsTrue}
use Rattle.pd_grove.specs.declared.nodes.Node.{Node}
use Rattle.pd_grove.specs.declared.boards.Board.{Board}
use Rattle.pd_grove.specs.declared.spots.Spot.{Spot}
use Rattle.pd_grove.specs.TextOrder.{box_spots, keys_of_spots, spot, spots_among}
use Rattle.pd_owning.specs.Order.{box_out, level}
use Rattle.pd_owning.specs.Bound.{is_among}

-- the box x is k or lies in it
abbrev pub LiesWithin : (ℕ → Option Node) → (ℕ → Option Board) → ℕ → ℕ → Type 0
LiesWithin nodes boards k x = (m : ℕ) × (box_out nodes boards m x ≡ Some k)

-- these are the box k and all boxes that lie in it
abbrev pub ArePart : (ℕ → Option Node) → (ℕ → Option Board) → ℕ → List ℕ → Type 0
ArePart nodes boards k keys = (x : ℕ) → (IsTrue (is_among keys x) ↔ LiesWithin nodes boards k x)

-- a box and all boxes that lie in it, in text order: with the root 257 canvases may lie in one another
abbrev pub part_spots : (ℕ → Option Node) → (ℕ → Option Board) → Spot → List Spot
part_spots nodes boards p = box_spots boards (spots_among nodes boards (256 - level nodes boards p.node)) p.is_top p.node (nodes p.node)

-- their keys
abbrev pub part_keys : (ℕ → Option Node) → (ℕ → Option Board) → ℕ → List ℕ
part_keys nodes boards k = keys_of_spots (part_spots nodes boards (spot true k))
