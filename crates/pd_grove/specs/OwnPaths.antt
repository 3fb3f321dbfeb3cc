-- Where paths lead through subpatches alone, in the patch's own document.
use Rattle.std.specs.Prelude.{ℕ, zero, suc, cond, List, [], ◌∷◌, Option, Some, None, option_and_then, slice_get}
use Rattle.slab.specs.Slab.{get}
use Rattle.pd_canvas.specs.Views.{entry_of}
use Rattle.pd_tree.specs.Trees.{Trees, Done, Leaf, Holder, Tree}
use Rattle.pd_grove.specs.declared.nodes.Node.{Node}
use Rattle.pd_grove.specs.declared.grove.Grove.{Grove}
use Rattle.pd_grove.specs.Telling.{keys_in}
use Rattle.pd_grove.specs.TextOrder.{is_sub}

-- the canvas that a subpatch holds; that of an abstraction is none of the patch's own
abbrev pub sub_in : Option Node → Option ℕ
sub_in None = None
sub_in (Some n) = cond (is_sub (entry_of n.element).head.form) n.inner None

-- the canvas in the box of a number of a canvas, if that box is a subpatch
abbrev pub sub_step_in : Grove → ℕ → ℕ → Option ℕ
sub_step_in g canvas number = option_and_then (λ k. sub_in (get g.nodes k)) (slice_get (keys_in (get g.boards canvas)) number)

-- where a path of box numbers leads from a canvas through subpatches alone, where there is one
abbrev pub sub_reached : Grove → Option ℕ → List ℕ → Option ℕ
sub_reached g here [] = here
sub_reached g here (n ∷ path) = sub_reached g (option_and_then (λ canvas. sub_step_in g canvas n) here) path

-- the canvas in the box of a number of a tree, if that box is a subpatch
abbrev pub sub_in_box : ℕ → Trees → Option Tree
sub_in_box n Done = None
sub_in_box zero (Leaf c rest) = None
sub_in_box zero (Holder c s inner rest) = cond (is_sub c.head.form) (Some (record { sheet = s; boxes = inner })) None
sub_in_box (suc n) (Leaf c rest) = sub_in_box n rest
sub_in_box (suc n) (Holder c s inner rest) = sub_in_box n rest

-- the canvas to which a path of box numbers leads through subpatches alone
abbrev pub sub_along : List ℕ → Tree → Option Tree
sub_along [] t = Some t
sub_along (n ∷ path) t = option_and_then (sub_along path) (sub_in_box n t.boxes)
