-- Boxes more in one canvas of a tree.
use Rattle.std.specs.Prelude.{ℕ, zero, suc, List, [], ◌∷◌, map}
use Rattle.pd_canvas.specs.Wiring.{raised_wire}
use Rattle.pd_tree.specs.Trees.{Trees, Done, Leaf, Holder, Tree, join}
use Rattle.pd_regrowth_law.specs.Canvases.{canvas_with}
use Rattle.pd_regrowth_law.specs.Rewiring.{with_wires}

-- the canvas in the box of a number changed
abbrev pub change_inside : ℕ → (Tree → Tree) → Trees → Trees
change_inside n f Done = Done
change_inside zero f (Leaf c rest) = Leaf c rest
change_inside zero f (Holder c s inner rest) = Holder c (f (canvas_with s inner)).sheet (f (canvas_with s inner)).boxes rest
change_inside (suc n) f (Leaf c rest) = Leaf c (change_inside n f rest)
change_inside (suc n) f (Holder c s inner rest) = Holder c s inner (change_inside n f rest)

-- the canvas to which a path leads changed
abbrev pub change_at : List ℕ → (Tree → Tree) → Tree → Tree
change_at [] f t = f t
change_at (n ∷ path) f t = canvas_with t.sheet (change_inside n (change_at path f) t.boxes)

-- boxes with others before the one of a number
abbrev pub boxes_before : ℕ → Trees → Trees → Trees
boxes_before zero new t = join new t
boxes_before (suc n) new Done = new
boxes_before (suc n) new (Leaf c rest) = Leaf c (boxes_before n new rest)
boxes_before (suc n) new (Holder c s inner rest) = Holder c s inner (boxes_before n new rest)

-- a canvas with these boxes before its one of a number, with the wires with which it grew
abbrev pub with_before : ℕ → Trees → Tree → Tree
with_before n new t = canvas_with t.sheet (boxes_before n new t.boxes)

-- a canvas with this box before its one of a number, and the wires of higher numbers at the next ones
abbrev pub wired_before : ℕ → Trees → Tree → Tree
wired_before n new t = canvas_with (with_wires (map (raised_wire n) t.sheet.wires) t.sheet) (boxes_before n new t.boxes)

-- the canvas to which a path leads with boxes before the one of a number: as it grew, and with the wires that there are
abbrev pub put_before : List ℕ → ℕ → Trees → Tree → Tree
put_before path n new t = change_at path (with_before n new) t

abbrev pub come_before : List ℕ → ℕ → Trees → Tree → Tree
come_before path n new t = change_at path (wired_before n new) t

-- a canvas with these boxes behind its own
abbrev pub with_boxes : Trees → Tree → Tree
with_boxes new t = canvas_with t.sheet (join t.boxes new)

-- these boxes last in the canvas to which a path leads
abbrev pub put_at : List ℕ → Trees → Tree → Tree
put_at path new t = change_at path (with_boxes new) t
