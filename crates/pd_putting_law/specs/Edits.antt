-- An element that comes into a running patch, and an edit that puts one.
use Rattle.std.specs.Prelude.{◌≡◌, ℕ, ◌+◌, ◌≤◌, List, [], ◌∷◌, length, Option, Some}
use Rattle.slab.specs.Slab.{get}
use Rattle.pd_clock.specs.declared.times.Rate.{Rate}
use Rattle.pd_canvas.specs.declared.edits.Edit.{Edit}
use Rattle.pd_canvas.specs.Pages.{Entry}
use Rattle.pd_canvas.specs.Proper.{levels, levels_of}
use Rattle.pd_library.specs.declared.answers.Answer.{Answer}
use Rattle.pd_tree.specs.Trees.{Trees, Tree}
use Rattle.pd_growth.specs.Steps.{Stock, gives}
use Rattle.pd_growth.specs.Growth.{around_root, box_grown, without_ending}
use Rattle.pd_grove.specs.declared.grove.Grove.{Grove}
use Rattle.pd_grove.specs.Standing.{Stands, depth_of}
use Rattle.pd_web.specs.declared.web.Web.{Web}
use Rattle.pd_regrowth_law.specs.Regrowth.{inner_of}
use Rattle.pd_regrowth_law.specs.Suits.{IsEntryOf}
use Rattle.pd_putting_law.specs.Putting.{HasBoxAt, HasBoxLast, KeepsWires, ComeFresh, IsBare, element_put}

-- The element comes into the canvas at a path of a patch in which the tree t stands. From it the box grew, in that canvas; it stands there at this number
-- and keeps what its kind keeps at first, and the document stays small enough. All else stays.
pub record TakesElement (g h : Grove) (w w' : Web) (numbers numbers' path : List ℕ) (canvas key number : ℕ) (lib : ℕ → Option Answer) (file : List ℕ) (t : Tree)
    (e : Entry) (from after : Stock) (new : Trees) : Type 0 where
  pub bare : IsBare e
  pub names : IsEntryOf from.names e
  pub left : ℕ
  pub deep : length path + left ≡ 255
  pub room : levels_of e.head.form (levels e.page.boxes) ≤ left
  pub grew : box_grown lib (without_ending file) left (inner_of lib (without_ending file) left) (around_root t.sheet.zero) e from ≡ gives new after
  pub box : HasBoxAt g h path canvas key number
  pub stands : Stands (get h.nodes) (get h.boards) canvas (depth_of (get g.boards canvas)) (key ∷ []) new
  pub rate : Rate
  pub now : ℕ
  pub fresh : ComeFresh rate now (get g.nodes) (get h.nodes)
  pub wires : KeepsWires g h w w' numbers numbers' key

-- The edit puts its element last into the canvas at a path of a patch in which the tree t stands. From the element the box grew, in that canvas; it
-- stands there last and keeps what its kind keeps at first, and the document stays small enough. All else stays.
pub record PutsBox (g h : Grove) (w w' : Web) (numbers numbers' path : List ℕ) (canvas key : ℕ) (lib : ℕ → Option Answer) (file : List ℕ) (t : Tree)
    (x : Edit) (from after : Stock) (new : Trees) : Type 0 where
  pub element : Entry
  pub puts : element_put x ≡ Some element
  pub names : IsEntryOf from.names element
  pub left : ℕ
  pub deep : length path + left ≡ 255
  pub room : levels_of element.head.form (levels element.page.boxes) ≤ left
  pub grew : box_grown lib (without_ending file) left (inner_of lib (without_ending file) left) (around_root t.sheet.zero) element from ≡ gives new after
  pub box : HasBoxLast g h path canvas key
  pub stands : Stands (get h.nodes) (get h.boards) canvas (depth_of (get g.boards canvas)) (key ∷ []) new
  pub rate : Rate
  pub now : ℕ
  pub fresh : ComeFresh rate now (get g.nodes) (get h.nodes)
  pub wires : KeepsWires g h w w' numbers numbers' key
