-- Text order: each box before those inside it.
use Rattle.std.specs.Prelude.{ℕ, zero, suc, ◌+◌, max, Bool, true, false, ◌&&◌, List, [], ◌∷◌, ◌++◌, map, Option, Some, None, option_map}
use Rattle.std.specs.List.{flat_map}
use Rattle.slab.specs.Slab.{get}
use Rattle.pd_canvas.specs.Pages.{Shape, Sub}
use Rattle.pd_canvas.specs.Views.{entry_of}
use Rattle.pd_tree.specs.Trees.{Cell, Trees, Done, Leaf, Holder}
use Rattle.pd_grove.specs.declared.nodes.Node.{Node}
use Rattle.pd_grove.specs.declared.boards.Board.{Board}
use Rattle.pd_grove.specs.declared.grove.Grove.{Grove}
use Rattle.pd_grove.specs.declared.spots.Spot.{Spot}
use Rattle.pd_grove.specs.Standing.{node_seen, Stands}
use Rattle.pd_grove.specs.Telling.{keys_in}

-- how deep canvases lie in one another
abbrev pub deep : Trees → ℕ
deep Done = 0
deep (Leaf c rest) = deep rest
deep (Holder c s inner rest) = max (deep inner + 1) (deep rest)

-- the boxes of a tree in text order
abbrev pub cells_in_order : Trees → List Cell
cells_in_order Done = []
cells_in_order (Leaf c rest) = c ∷ cells_in_order rest
cells_in_order (Holder c s inner rest) = c ∷ (cells_in_order inner ++ cells_in_order rest)

-- a subpatch, and no abstraction
abbrev pub is_sub : Shape → Bool
is_sub Sub = true
is_sub _ = false

-- a box, and whether it is in the patch's own document and not inside an abstraction
pub record Placed : Type 0 where
  pub cell : Cell
  pub is_top : Bool

abbrev pub placed : Bool → Cell → Placed
placed top c = record { cell = c; is_top = top }

-- the boxes in text order, those of this canvas in the patch's own document or not
abbrev pub placed_in_order : Bool → Trees → List Placed
placed_in_order top Done = []
placed_in_order top (Leaf c rest) = placed top c ∷ placed_in_order top rest
placed_in_order top (Holder c s inner rest) =
    placed top c ∷ (placed_in_order (top && is_sub c.head.form) inner ++ placed_in_order top rest)

-- the keys of boxes that stand, in text order
abbrev pub keys_standing : (nodes : ℕ → Option Node) (boards : ℕ → Option Board) (b d : ℕ) (keys : List ℕ) (t : Trees) → Stands nodes boards b d keys t → List ℕ
keys_standing nodes boards b d [] Done S = []
keys_standing nodes boards b d (k ∷ ks) Done S = []
keys_standing nodes boards b d [] (Leaf c rest) S = []
keys_standing nodes boards b d (k ∷ ks) (Leaf c rest) S = k ∷ keys_standing nodes boards b d ks rest S.1
keys_standing nodes boards b d [] (Holder c s inner rest) S = []
keys_standing nodes boards b d (k ∷ ks) (Holder c s inner rest) S =
    k ∷ (keys_standing nodes boards S.0 (d + 1) S.1 inner S.4 ++ keys_standing nodes boards b d ks rest S.5)

-- the keys of the boxes of the canvas that a box holds
abbrev pub keys_inside : (ℕ → Option Board) → Option ℕ → List ℕ
keys_inside boards None = []
keys_inside boards (Some j) = keys_in (boards j)

abbrev pub spot : Bool → ℕ → Spot
spot top k = record { node = k; is_top = top }

-- a live box, and then those inside it
abbrev pub box_spots : (ℕ → Option Board) → (Bool → List ℕ → List Spot) → Bool → ℕ → Option Node → List Spot
box_spots boards inside top k None = []
box_spots boards inside top k (Some n) = spot top k ∷ inside (top && is_sub (entry_of n.element).head.form) (keys_inside boards n.inner)

-- The live boxes among these keys, each before those inside it, where so many canvases may lie in one another.
unfoldable pub spots_among : (ℕ → Option Node) → (ℕ → Option Board) → ℕ → Bool → List ℕ → List Spot
spots_among nodes boards zero top keys = []
spots_among nodes boards (suc n) top keys = flat_map (λ k. box_spots boards (spots_among nodes boards n) top k (nodes k)) keys

-- the live boxes of a grove in text order: with the root 257 canvases may lie in one another
abbrev pub spots_in_order : Grove → List Spot
spots_in_order g = spots_among (get g.nodes) (get g.boards) 257 true (keys_in (get g.boards g.root))

abbrev pub keys_of_spots : List Spot → List ℕ
keys_of_spots spots = map (λ (p : Spot). p.node) spots

abbrev pub keys_in_order : Grove → List ℕ
keys_in_order g = keys_of_spots (spots_in_order g)

-- what is seen of the box of a key
abbrev pub cell_under : (ℕ → Option Node) → ℕ → Option Cell
cell_under nodes k = option_map (λ (n : Node). (node_seen n).cell) (nodes k)

abbrev pub placed_at : (ℕ → Option Node) → Spot → Option Placed
placed_at nodes p = option_map (λ c. placed p.is_top c) (cell_under nodes p.node)
