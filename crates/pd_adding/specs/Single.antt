-- Boxes that hold no canvas.
use Rattle.std.specs.Prelude.{◌≡◌, Bool, true, false}
use Rattle.pd_canvas.specs.Pages.{Shape, Obj, Sub}
use Rattle.pd_tree.specs.Trees.{Cell, Trees, Leaf, Done}

-- what grew is one box without a canvas
pub record IsSingle (t : Trees) : Type 0 where
  pub cell : Cell
  pub is : t ≡ Leaf cell Done

-- a box that holds no canvas, whatever its text: any but an object or a subpatch
abbrev pub is_plain : Shape → Bool
is_plain Obj = false
is_plain Sub = false
is_plain form = true
