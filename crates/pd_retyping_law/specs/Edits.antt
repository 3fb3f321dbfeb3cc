-- An edit that gives a box of a running patch another text.
use Rattle.std.specs.Prelude.{◌≡◌, ℕ, ◌+◌, ◌≤◌, false, ◌&&◌, List, length, Option}
use Rattle.pd_atom.specs.declared.Atom.{Atom}
use Rattle.pd_clock.specs.declared.times.Rate.{Rate}
use Rattle.pd_canvas.specs.Edits.{CanRetype, begins_with_pd, retyped}
use Rattle.pd_canvas.specs.Pages.{Entry}
use Rattle.pd_canvas.specs.Proper.{levels, levels_of}
use Rattle.pd_canvas.specs.Views.{entry_of}
use Rattle.pd_library.specs.declared.answers.Answer.{Answer}
use Rattle.pd_tree.specs.Trees.{Done, Leaf, Tree}
use Rattle.pd_growth.specs.Steps.{Stock, gives}
use Rattle.pd_growth.specs.Growth.{around_root, box_grown, without_ending}
use Rattle.pd_grove.specs.declared.nodes.Node.{Node}
use Rattle.pd_grove.specs.declared.grove.Grove.{Grove}
use Rattle.pd_grove.specs.TextOrder.{is_sub}
use Rattle.pd_regrowth_law.specs.Regrowth.{inner_of}
use Rattle.pd_regrowth_law.specs.Suits.{IsEntryOf}
use Rattle.pd_retyping_law.specs.Retyping.{RetypesBoxAt, KeepsFirst, cell_in}

-- the element from which a box grew, with another text
abbrev pub element_with : List Atom → Node → Entry
element_with text n = retyped text (entry_of n.element)

-- The edit gives the box of a number another text, in the canvas at a path of a patch in which the tree t stands. The box is no subpatch that would
-- keep what it holds. From its element with that text the new box grew, in that canvas; it stands there in its place and keeps what its kind keeps
-- at first, and the document stays small enough. All else stays.
pub record GivesText (g h : Grove) (path : List ℕ) (canvas key number : ℕ) (lib : ℕ → Option Answer) (file : List ℕ) (t : Tree) (text : List Atom) (n n' : Node)
    (from after : Stock) : Type 0 where
  pub box : RetypesBoxAt g h path canvas key number n n'
  pub takes : CanRetype (entry_of n.element)
  pub new : (is_sub (entry_of n.element).head.form && begins_with_pd text) ≡ false
  pub names : IsEntryOf from.names (element_with text n)
  pub left : ℕ
  pub deep : length path + left ≡ 255
  pub room : levels_of (element_with text n).head.form (levels (element_with text n).page.boxes) ≤ left
  pub grew : box_grown lib (without_ending file) left (inner_of lib (without_ending file) left) (around_root t.sheet.zero) (element_with text n) from ≡ gives (Leaf (cell_in n') Done) after
  pub rate : Rate
  pub now : ℕ
  pub first : KeepsFirst rate now n'
