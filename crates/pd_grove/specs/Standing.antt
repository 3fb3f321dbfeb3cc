-- Which tree stands under keys.
use Rattle.std.specs.Prelude.{◌≡◌, ◌≢◌, ℕ, ◌+◌, ◌-◌, List, [], ◌∷◌, ◌++◌, ◌⊎◌, Option, Some, None, option_map, vec_len, vec_capacity}
use Rattle.slab.specs.Slab.{get}
use Rattle.pd_canvas.specs.Views.{entry_of}
use Rattle.pd_tree.specs.declared.rows.Sheet.{Sheet}
use Rattle.pd_tree.specs.Trees.{Cell, Trees, Done, Leaf, Holder}
use Rattle.pd_grove.specs.declared.nodes.Node.{Node}
use Rattle.pd_grove.specs.declared.boards.Board.{Board}
use Rattle.pd_grove.specs.declared.grove.Grove.{Grove}

-- what is seen of a box: the key of its canvas, what it is, and the key of the canvas that it holds
pub record NodeSeen : Type 0 where
  pub board : ℕ
  pub cell : Cell
  pub inner : Option ℕ

abbrev pub node_seen : Node → NodeSeen
node_seen n = record {
  board = n.board;
  cell = record { head = (entry_of n.element).head; text = n.text; kind = n.kind; fault = n.fault };
  inner = n.inner;
}

abbrev pub with_inner : ℕ → Node → Node
with_inner j n =
    record { board = n.board; element = n.element; text = n.text; kind = n.kind; fault = n.fault; state = n.state; inner = Some j }

-- one of the boxes, or of those inside them, is this one
abbrev pub HasCell : Trees → Cell → Type 0
HasCell Done x = ⊥
HasCell (Leaf c rest) x = (c ≡ x) ⊎ HasCell rest x
HasCell (Holder c s inner rest) x = (c ≡ x) ⊎ (HasCell inner x ⊎ HasCell rest x)

-- each box under a key is a box of the tree
abbrev pub NodesOf : Trees → (ℕ → Option Node) → Type 0
NodesOf t nodes = (k : ℕ) (n : Node) → nodes k ≡ Some n → HasCell t (node_seen n).cell

-- what is seen of a canvas: the key of the box that holds it, how many canvases it lies in, its sheet, and the keys of its boxes
pub record BoardSeen : Type 0 where
  pub holder : Option ℕ
  pub depth : ℕ
  pub sheet : Sheet
  pub keys : List ℕ

abbrev pub board_seen : Board → BoardSeen
board_seen b = record { holder = b.holder; depth = b.depth; sheet = b.sheet; keys = b.nodes.items }

abbrev pub depth_of : Option Board → ℕ
depth_of None = 0
depth_of (Some b) = b.depth

-- for how many more boxes a canvas has room
abbrev pub board_room : Option Board → ℕ
board_room None = 0
board_room (Some b) = vec_capacity b.nodes - vec_len b.nodes

-- Under these keys of the canvas b, which lies in d others, these boxes stand, each with what it holds.
abbrev pub Stands : (ℕ → Option Node) → (ℕ → Option Board) → ℕ → ℕ → List ℕ → Trees → Type 0
Stands nodes boards b d [] Done = Unit {0}
Stands nodes boards b d (k ∷ ks) Done = ⊥
Stands nodes boards b d [] (Leaf c rest) = ⊥
Stands nodes boards b d (k ∷ ks) (Leaf c rest) =
    (option_map node_seen (nodes k) ≡ Some (record { board = b; cell = c; inner = None })) × Stands nodes boards b d ks rest
Stands nodes boards b d [] (Holder c s inner rest) = ⊥
Stands nodes boards b d (k ∷ ks) (Holder c s inner rest) =
    (j : ℕ) × (js : List ℕ)
    × (option_map node_seen (nodes k) ≡ Some (record { board = b; cell = c; inner = Some j }))
    × (option_map board_seen (boards j) ≡ Some (record { holder = Some k; depth = d + 1; sheet = s; keys = js }))
    × Stands nodes boards j (d + 1) js inner
    × Stands nodes boards b d ks rest

-- the canvas has one more box, and every other stays
pub record Gains (old new : ℕ → Option Board) (b k : ℕ) : Type 0 where
  pub seen : option_map board_seen (new b) ≡ option_map (λ s. record { holder = s.holder; depth = s.depth; sheet = s.sheet; keys = s.keys ++ k ∷ [] }) (option_map board_seen (old b))
  pub room : board_room (new b) + 1 ≡ board_room (old b)
  pub others : (j : ℕ) → j ≢ b → new j ≡ old j

-- no key has a value
abbrev pub IsEmpty : {A : Type 0} → (ℕ → Option A) → Type 0
IsEmpty at = (k : ℕ) → at k ≡ None

-- the tree under keys is that of a root canvas with this sheet and these boxes
pub record GroveStands (g : Grove) (s : Sheet) (t : Trees) : Type 0 where
  pub keys : List ℕ
  pub root : option_map board_seen (get g.boards g.root) ≡ Some (record { holder = None; depth = 0; sheet = s; keys = keys })
  pub stands : Stands (get g.nodes) (get g.boards) g.root 0 keys t
