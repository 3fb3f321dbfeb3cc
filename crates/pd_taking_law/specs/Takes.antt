-- A box less in one canvas of a tree.
use Rattle.std.specs.Prelude.{ℕ, zero, suc, List}
use Rattle.pd_canvas.specs.Wiring.{without_box}
use Rattle.pd_tree.specs.Trees.{Trees, Done, Leaf, Holder, Tree}
use Rattle.pd_regrowth_law.specs.Canvases.{canvas_with}
use Rattle.pd_regrowth_law.specs.Rewiring.{with_wires}
use Rattle.pd_putting_law.specs.Puts.{change_at}

-- boxes less the one of a number, with all that lies in it
abbrev pub boxes_less : ℕ → Trees → Trees
boxes_less n Done = Done
boxes_less zero (Leaf c rest) = rest
boxes_less zero (Holder c s inner rest) = rest
boxes_less (suc n) (Leaf c rest) = Leaf c (boxes_less n rest)
boxes_less (suc n) (Holder c s inner rest) = Holder c s inner (boxes_less n rest)

-- a canvas less the box of a number, with the wires with which it grew
abbrev pub less_box : ℕ → Tree → Tree
less_box n t = canvas_with t.sheet (boxes_less n t.boxes)

-- a canvas less the box of a number and its wires
abbrev pub less_wired : ℕ → Tree → Tree
less_wired n t = canvas_with (with_wires (without_box n t.sheet.wires) t.sheet) (boxes_less n t.boxes)

-- the canvas to which a path leads less the box of a number: as it grew, and with the wires that there are
abbrev pub taken_at : List ℕ → ℕ → Tree → Tree
taken_at path n t = change_at path (less_box n) t

abbrev pub deleted_at : List ℕ → ℕ → Tree → Tree
deleted_at path n t = change_at path (less_wired n) t
