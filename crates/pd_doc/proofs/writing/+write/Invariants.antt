use Rattle.std.proofs.Common.{◌≡◌, ◌++◌, drop}
use Rattle.pd_canvas.specs.Pages.{boxed}
use Rattle.pd_canvas.specs.Views.{entries_of}
use Rattle.pd_doc.specs.Atoms.{BoxesOf}
use Rattle.pd_doc.specs.Lines.{boxes_text}
use Rattle.pd_doc.proofs.writing.+write.Given as goal

abbrev pub invariant-push_boxes-loop-element : goal.invariant-push_boxes-loop-element
invariant-push_boxes-loop-element l = record {
  text : l.out.items ++ boxes_text l.symbols (boxed (entries_of (drop l.element-index l.elements))) ≡ l.fn.out.items ++ boxes_text l.symbols (boxed (entries_of l.elements));
  of_table : BoxesOf l.symbols (boxed (entries_of (drop l.element-index l.elements)));
}
