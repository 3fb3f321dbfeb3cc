-- Which canvas of a tree stands where.
use Rattle.std.specs.Prelude.{◌≡◌, ℕ, zero, suc, List, [], ◌∷◌, Option, Some, None, option_map, option_and_then, slice_get}
use Rattle.slab.specs.Slab.{get}
use Rattle.pd_tree.specs.Trees.{Cell, Trees, Done, Leaf, Holder, Tree}
use Rattle.pd_grove.specs.declared.grove.Grove.{Grove}
use Rattle.pd_grove.specs.declared.nodes.Node.{Node}
use Rattle.pd_grove.specs.Standing.{node_seen, board_seen, Stands}
use Rattle.pd_grove.specs.Telling.{keys_in}

-- the canvas in the box of a number
abbrev pub canvas_in_box : ℕ → Trees → Option Tree
canvas_in_box n Done = None
canvas_in_box zero (Leaf c rest) = None
canvas_in_box zero (Holder c s inner rest) = Some (record { sheet = s; boxes = inner })
canvas_in_box (suc n) (Leaf c rest) = canvas_in_box n rest
canvas_in_box (suc n) (Holder c s inner rest) = canvas_in_box n rest

-- the canvas to which a path of box numbers leads
abbrev pub canvas_along : List ℕ → Tree → Option Tree
canvas_along [] t = Some t
canvas_along (n ∷ path) t = option_and_then (canvas_along path) (canvas_in_box n t.boxes)

-- the box of a number
abbrev pub cell_at : ℕ → Trees → Option Cell
cell_at n Done = None
cell_at zero (Leaf c rest) = Some c
cell_at zero (Holder c s inner rest) = Some c
cell_at (suc n) (Leaf c rest) = cell_at n rest
cell_at (suc n) (Holder c s inner rest) = cell_at n rest

-- a canvas stands under a key
pub record CanvasStands (g : Grove) (c : ℕ) (u : Tree) : Type 0 where
  pub holder : Option ℕ
  pub depth : ℕ
  pub keys : List ℕ
  pub board : option_map board_seen (get g.boards c) ≡ Some (record { holder = holder; depth = depth; sheet = u.sheet; keys = keys })
  pub stands : Stands (get g.nodes) (get g.boards) c depth keys u.boxes

-- a key is there exactly where a canvas is, and that canvas stands under it
abbrev pub LeadsTo : Grove → Option ℕ → Option Tree → Type 0
LeadsTo g key None = key ≡ None
LeadsTo g key (Some u) = (c : ℕ) × (key ≡ Some c) × CanvasStands g c u

-- what is seen of the box of a number of a canvas
abbrev pub cell_seen : Grove → ℕ → ℕ → Option Cell
cell_seen g c n = option_and_then (λ k. option_map (λ (x : Node). (node_seen x).cell) (get g.nodes k)) (slice_get (keys_in (get g.boards c)) n)
