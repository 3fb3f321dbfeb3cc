-- A box at another place in one canvas of a tree.
use Rattle.std.specs.Prelude.{ℕ, zero, suc, ℤ, List}
use Rattle.pd_tree.specs.Trees.{Cell, Trees, Done, Leaf, Holder, Tree}
use Rattle.pd_regrowth_law.specs.Canvases.{canvas_with}
use Rattle.pd_putting_law.specs.Puts.{change_at}

-- a box at another place of its canvas's window
abbrev pub cell_at : ℤ → ℤ → Cell → Cell
cell_at x y c = record {
  head = record { x = x; y = y; form = c.head.form; text = c.head.text; width = c.head.width; tail = c.head.tail };
  text = c.text;
  kind = c.kind;
  fault = c.fault;
}

-- boxes of which the one of a number stands at another place
abbrev pub boxes_shifted : ℕ → ℤ → ℤ → Trees → Trees
boxes_shifted n x y Done = Done
boxes_shifted zero x y (Leaf c rest) = Leaf (cell_at x y c) rest
boxes_shifted zero x y (Holder c s inner rest) = Holder (cell_at x y c) s inner rest
boxes_shifted (suc n) x y (Leaf c rest) = Leaf c (boxes_shifted n x y rest)
boxes_shifted (suc n) x y (Holder c s inner rest) = Holder c s inner (boxes_shifted n x y rest)

abbrev pub shifted_box : ℕ → ℤ → ℤ → Tree → Tree
shifted_box n x y t = canvas_with t.sheet (boxes_shifted n x y t.boxes)

-- the canvas to which a path leads with the box of a number at another place
abbrev pub shifted_at : List ℕ → ℕ → ℤ → ℤ → Tree → Tree
shifted_at path n x y t = change_at path (shifted_box n x y) t
