use Rattle.std.proofs.Common.{◌+◌, ◌*◌, drop}
use Rattle.std.specs.List.{AllByRecursion}
use Rattle.pd_atom.specs.Names.{Extends}
use Rattle.pd_canvas.specs.Views.{entries_of}
use Rattle.pd_growth.specs.Growing.{stock, around_of, lib_of}
use Rattle.pd_growth.specs.Suits.{EntrySuits}
use Rattle.pd_growth.proofs.StepLemmas.{Halfway}
use Rattle.pd_growth.proofs.boxes.+growth.Given as goal

abbrev pub decreases-grow_boxes : goal.decreases-grow_boxes
decreases-grow_boxes l = 7 * l.left + 7

abbrev pub decreases-grow_box : goal.decreases-grow_box
decreases-grow_box l = 7 * l.left + 6

abbrev pub decreases-grow_form : goal.decreases-grow_form
decreases-grow_form l = 7 * l.left + 5

abbrev pub decreases-grow_subpatch : goal.decreases-grow_subpatch
decreases-grow_subpatch l = 7 * l.left + 4

abbrev pub decreases-grow_other : goal.decreases-grow_other
decreases-grow_other l = 7 * l.left + 4

abbrev pub decreases-grow_made : goal.decreases-grow_made
decreases-grow_made l = 7 * l.left + 3

abbrev pub decreases-grow_file : goal.decreases-grow_file
decreases-grow_file l = 7 * l.left + 2

abbrev pub decreases-grow_canvas : goal.decreases-grow_canvas
decreases-grow_canvas l = 7 * l.left + 1

abbrev pub invariant-grow_boxes-loop-element : goal.invariant-grow_boxes-loop-element
invariant-grow_boxes-loop-element l = record {
  halfway : Halfway (lib_of l.setting) l.setting.root.now l.left (around_of l.scope) l.elements (stock l.fn.symbols l.fn.supply) (stock l.symbols l.supply) l.fn.rows.items l.rows.items l.element-index;
  rest : AllByRecursion (EntrySuits l.symbols l.left) (entries_of (drop l.element-index l.elements));
  extends : Extends l.fn.symbols l.symbols;
}
