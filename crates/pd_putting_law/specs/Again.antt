-- A tree that stands and grows again from its own document, whatever it grew from.
use Rattle.std.specs.Prelude.{◌≤◌, ℕ, List, Option}
use Rattle.pd_atom.specs.Names.{Names}
use Rattle.pd_canvas.specs.Proper.{levels}
use Rattle.pd_library.specs.declared.answers.Answer.{Answer}
use Rattle.pd_tree.specs.Trees.{Tree, document_boxes}
use Rattle.pd_regrowth_law.specs.Canvases.{PatchRegrows}
use Rattle.pd_regrowth_law.specs.Suits.{TextsOf, IsLibraryOf}

-- The tree grows again from its own document. What that and the files name is of the table, and at most 255 canvases lie in one another below its root.
pub record StandsAgain (lib : ℕ → Option Answer) (file : List ℕ) (names : Names) (t : Tree) : Type 0 where
  pub library : IsLibraryOf names lib
  pub texts : TextsOf names (document_boxes t.boxes)
  pub shallow : levels (document_boxes t.boxes) ≤ 255
  pub regrows : PatchRegrows lib file names t
