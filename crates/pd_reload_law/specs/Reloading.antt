-- What has grown from a document, and a patch whose tree it is.
use Rattle.std.specs.Prelude.{◌≡◌, ◌≤◌, ℕ, List, Option}
use Rattle.slab.specs.Slab.{get}
use Rattle.pd_canvas.specs.Pages.{Page}
use Rattle.pd_canvas.specs.Proper.{levels}
use Rattle.pd_library.specs.declared.answers.Answer.{Answer}
use Rattle.pd_tree.specs.Trees.{Tree}
use Rattle.pd_growth.specs.Steps.{Stock, gives}
use Rattle.pd_growth.specs.Growth.{grown}
use Rattle.pd_grove.specs.declared.grove.Grove.{Grove}
use Rattle.pd_grove.specs.Standing.{GroveStands}
use Rattle.pd_grove.specs.TextOrder.{deep}
use Rattle.pd_regrowth_law.specs.Suits.{TextsOf, IsLibraryOf, HoldNone}
use Rattle.pd_reload_law.specs.Saving.{AreSavable}

-- The tree has grown from the document. What the document and the files name is of the table, no box but a subpatch holds anything in the
-- document, and at most 255 canvases lie in one another below its root.
pub record HasGrown (lib : ℕ → Option Answer) (file : List ℕ) (page : Page) (before : Stock) (t : Tree) (after : Stock) : Type 0 where
  pub library : IsLibraryOf before.names lib
  pub texts : TextsOf before.names page.boxes
  pub none : HoldNone page.boxes
  pub shallow : levels page.boxes ≤ 255
  pub grew : grown lib file page before ≡ gives t after

-- the tree stands under keys, whatever its boxes keep by now of what is theirs
pub record RunsAs (g : Grove) (t : Tree) : Type 0 where
  pub stands : GroveStands g t.sheet t.boxes
  pub shallow : deep t.boxes ≤ 256
  pub savable : AreSavable (get g.nodes)
