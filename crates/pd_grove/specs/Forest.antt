-- Boxes and canvases under keys that are one tree, said box by box and canvas by canvas, and the tree that they tell.
use Rattle.std.specs.Prelude.{◌≡◌, ◌<◌, ℕ, zero, suc, ◌+◌, List, [], ◌∷◌, Option, Some, None, IsSome, option_and_then, slice_get}
use Rattle.slab.specs.Slab.{get}
use Rattle.pd_tree.specs.declared.rows.Sheet.{Sheet}
use Rattle.pd_tree.specs.Trees.{Cell, Trees, Done, Leaf, Holder, Tree, join}
use Rattle.pd_grove.specs.declared.nodes.Node.{Node}
use Rattle.pd_grove.specs.declared.boards.Board.{Board}
use Rattle.pd_grove.specs.declared.grove.Grove.{Grove}
use Rattle.pd_grove.specs.Standing.{node_seen, depth_of}
use Rattle.pd_grove.specs.Telling.{inner_in, keys_in}
use Rattle.pd_grove.specs.Owning.{board_in, AreOwn}

-- the key of the box that holds a canvas
abbrev pub holder_in : Option Board → Option ℕ
holder_in o = option_and_then (λ (b : Board). b.holder) o

-- Boxes and canvases are one tree: the boxes of a canvas lie in it, each under one number; a box that lives is one of those of its
-- canvas; a box and the canvas that it holds name each other, and that canvas lies one deeper; only the root is in no box.
pub record IsForest (nodes : ℕ → Option Node) (boards : ℕ → Option Board) (root : ℕ) : Type 0 where
  pub own : AreOwn nodes boards
  pub placed : (k c : ℕ) → board_in (nodes k) ≡ Some c → (i : ℕ) × (slice_get (keys_in (boards c)) i ≡ Some k)
  pub inside : (k j : ℕ) → inner_in (nodes k) ≡ Some j → holder_in (boards j) ≡ Some k
  pub held : (c k : ℕ) → holder_in (boards c) ≡ Some k → inner_in (nodes k) ≡ Some c
  pub deeper : (k c j : ℕ) → board_in (nodes k) ≡ Some c → inner_in (nodes k) ≡ Some j → depth_of (boards j) ≡ depth_of (boards c) + 1
  pub rooted : IsSome (boards root) × (holder_in (boards root) ≡ None) × (depth_of (boards root) ≡ 0)
  pub alone : (c : ℕ) → IsSome (boards c) → holder_in (boards c) ≡ None → c ≡ root
  pub shallow : (c : ℕ) → depth_of (boards c) < 257

-- a box with the canvas that it holds, and then others
abbrev pub box_before : Cell → Option Tree → Trees → Trees
box_before c None rest = Leaf c rest
box_before c (Some u) rest = Holder c u.sheet u.boxes rest

-- a box if it lives, and then others, where it is known what canvases tell
abbrev pub box_by : (ℕ → Option Tree) → Option Node → Trees → Trees
box_by inside None rest = rest
box_by inside (Some n) rest = box_before (node_seen n).cell (option_and_then inside n.inner) rest

-- the boxes of keys
abbrev pub boxes_by : (ℕ → Option Node) → (ℕ → Option Tree) → List ℕ → Trees
boxes_by nodes inside [] = Done
boxes_by nodes inside (k ∷ ks) = box_by inside (nodes k) (boxes_by nodes inside ks)

abbrev pub canvas_by : (ℕ → Option Node) → (ℕ → Option Tree) → Option Board → Option Tree
canvas_by nodes inside None = None
canvas_by nodes inside (Some b) = Some (record { sheet = b.sheet; boxes = boxes_by nodes inside b.nodes.items })

-- what the canvas of a key tells, where so many canvases may lie in one another
unfoldable pub told : (ℕ → Option Node) → (ℕ → Option Board) → ℕ → ℕ → Option Tree
told nodes boards zero c = None
told nodes boards (suc n) c = canvas_by nodes (told nodes boards n) (boards c)

-- the tree of a grove: with the root 257 canvases may lie in one another
abbrev pub tree_of : Grove → Option Tree
tree_of g = told (get g.nodes) (get g.boards) 257 g.root

-- where a canvas lies in a tree, from outside in: for each canvas around it the sheet, the boxes before, the box that holds the next, and the boxes behind
pub data Nest : Type 0 where
  Alone : Nest
  Inside : Sheet → Trees → Cell → Nest → Trees → Nest

-- the tree with a canvas there
abbrev pub nested : Nest → Tree → Tree
nested Alone t = t
nested (Inside s before c nest behind) t =
    record { sheet = s; boxes = join before (Holder c (nested nest t).sheet (nested nest t).boxes behind) }

-- the canvas around a canvas
abbrev pub around : (ℕ → Option Node) → (ℕ → Option Board) → ℕ → Option ℕ
around nodes boards c = option_and_then (λ k. board_in (nodes k)) (holder_in (boards c))

-- the canvas so many canvases further out
abbrev pub out_of : (ℕ → Option Node) → (ℕ → Option Board) → ℕ → ℕ → Option ℕ
out_of nodes boards zero x = Some x
out_of nodes boards (suc m) x = option_and_then (around nodes boards) (out_of nodes boards m x)

-- the canvas x is c, or lies in it
abbrev pub LiesIn : (ℕ → Option Node) → (ℕ → Option Board) → ℕ → ℕ → Type 0
LiesIn nodes boards c x = (m : ℕ) × (out_of nodes boards m x ≡ Some c)

-- what lived outside a canvas stays
pub record StaysAround (nodes nodes' : ℕ → Option Node) (boards boards' : ℕ → Option Board) (c : ℕ) : Type 0 where
  pub boards_stay : (x : ℕ) → IsSome (boards x) → (LiesIn nodes boards c x → ⊥) → boards' x ≡ boards x
  pub nodes_stay : (k x : ℕ) → board_in (nodes k) ≡ Some x → (LiesIn nodes boards c x → ⊥) → nodes' k ≡ nodes k

-- a tree is as it was, but for one canvas
pub record HasOther (old new : Option Tree) (u u' : Tree) : Type 0 where
  pub nest : Nest
  pub was : old ≡ Some (nested nest u)
  pub is : new ≡ Some (nested nest u')

-- a tree is as it was, but that one canvas has one box more, which holds none
pub record HasLeafMore (old new : Option Tree) (c : Cell) : Type 0 where
  pub sheet : Sheet
  pub before : Trees
  pub behind : Trees
  pub at : HasOther old new (record { sheet = sheet; boxes = join before behind }) (record { sheet = sheet; boxes = join before (Leaf c behind) })

-- a tree is as it was, but that one canvas has one box less, with the canvas that it held
pub record HasBoxLess (old new : Option Tree) (c : Cell) : Type 0 where
  pub sheet : Sheet
  pub before : Trees
  pub canvas : Option Tree
  pub behind : Trees
  pub at : HasOther old new (record { sheet = sheet; boxes = join before (box_before c canvas behind) }) (record { sheet = sheet; boxes = join before behind })

-- a tree is as it was, but that one canvas has another box in place of this one
pub record HasBoxOther (old new : Option Tree) (c : Cell) (canvas : Option Tree) (c' : Cell) (canvas' : Option Tree) : Type 0 where
  pub sheet : Sheet
  pub before : Trees
  pub behind : Trees
  pub at : HasOther old new (record { sheet = sheet; boxes = join before (box_before c canvas behind) }) (record { sheet = sheet; boxes = join before (box_before c' canvas' behind) })
