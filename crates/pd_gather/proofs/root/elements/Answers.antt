use Rattle.std.proofs.Common.{◌≡◌, ◌≤◌, length, List, sym, ap, ◌∙◌, arith}
use Rattle.std.proofs.lemmas.List.{length-map}
use Rattle.pd_canvas.specs.Pages.{Page, Entry, elements_of, weight}
use Rattle.pd_canvas.specs.declared.tree.Element.{Element}
use Rattle.pd_canvas.specs.Views.{entry_of, entries_of}
use Rattle.pd_growth.proofs.SuitLemmas.{few_boxes, listed_boxed}
use Rattle.pd_gather.proofs.root.elements.Goals as goal

seen_few : (es : List Element) (p : Page) → entries_of es ≡ elements_of p → length es ≤ weight p.boxes
seen_few es p e = let f = few_boxes p.boxes in let n = length-map es entry_of in let m = ap (λ (xs : List Entry). length xs) e in omega (arith, f, n, m)

pub returns-clause-elements : goal.returns-clause-elements
returns-clause-elements c =
    ap entries_of c.as_slice.ensures ∙ sym (listed_boxed (entries_of c.canvas.inside.boxes.items.items)) ∙ ap elements_of c.canvas.view_is

pub returns-clause-few : goal.returns-clause-few
returns-clause-few c = seen_few c.as_slice.result.now c.args.canvas.now (returns-clause-elements c)
