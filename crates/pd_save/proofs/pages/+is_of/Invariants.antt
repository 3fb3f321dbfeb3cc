use Rattle.std.proofs.Common.{◌↔◌, drop}
use Rattle.pd_canvas.specs.Pages.{boxed}
use Rattle.pd_canvas.specs.Views.{entries_of}
use Rattle.pd_doc.specs.Atoms.{BoxesOf}
use Rattle.pd_save.proofs.pages.+is_of.Given as goal

abbrev pub invariant-boxes_are_of-loop-element : goal.invariant-boxes_are_of-loop-element
invariant-boxes_are_of-loop-element l =
    BoxesOf l.symbols (boxed (entries_of (drop l.element-index l.elements))) ↔ BoxesOf l.symbols (boxed (entries_of l.elements))
