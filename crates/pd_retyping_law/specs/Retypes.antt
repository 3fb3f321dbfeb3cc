-- Another box in the place of one, in one canvas of a tree.
use Rattle.std.specs.Prelude.{◌≡◌, ℕ, zero, suc, List}
use Rattle.pd_canvas.specs.Pages.{Sub}
use Rattle.pd_tree.specs.Trees.{Cell, Trees, Done, Leaf, Holder, Tree}
use Rattle.pd_regrowth_law.specs.Canvases.{canvas_with}
use Rattle.pd_putting_law.specs.Puts.{change_at}

-- boxes of which the one of a number is this one, with what that one holds
abbrev pub boxes_with : ℕ → Cell → Trees → Trees
boxes_with n c Done = Done
boxes_with zero c (Leaf old rest) = Leaf c rest
boxes_with zero c (Holder old s inner rest) = Holder c s inner rest
boxes_with (suc n) c (Leaf old rest) = Leaf old (boxes_with n c rest)
boxes_with (suc n) c (Holder old s inner rest) = Holder old s inner (boxes_with n c rest)

-- the box of a number holds no canvas
abbrev pub BareAt : ℕ → Trees → Type 0
BareAt n Done = Unit {0}
BareAt zero (Leaf old rest) = Unit {0}
BareAt zero (Holder old s inner rest) = ⊥
BareAt (suc n) (Leaf old rest) = BareAt n rest
BareAt (suc n) (Holder old s inner rest) = BareAt n rest

-- where the box of a number holds a canvas, it is a subpatch, and so is this one
abbrev pub SuitsAt : ℕ → Cell → Trees → Type 0
SuitsAt n c Done = Unit {0}
SuitsAt zero c (Leaf old rest) = Unit {0}
SuitsAt zero c (Holder old s inner rest) = (old.head.form ≡ Sub) × (c.head.form ≡ Sub)
SuitsAt (suc n) c (Leaf old rest) = SuitsAt n c rest
SuitsAt (suc n) c (Holder old s inner rest) = SuitsAt n c rest

abbrev pub retyped_box : ℕ → Cell → Tree → Tree
retyped_box n c t = canvas_with t.sheet (boxes_with n c t.boxes)

-- the canvas to which a path leads with this box in the place of the one of a number
abbrev pub retyped_at : List ℕ → ℕ → Cell → Tree → Tree
retyped_at path n c t = change_at path (retyped_box n c) t
