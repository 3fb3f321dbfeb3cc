use Rattle.std.proofs.Common.{◌≢◌, List, [], length, sym, ap, ◌∙◌, subst}
use Rattle.std.proofs.lemmas.Bool.{not-false, not-true}
use Rattle.pd_tree.specs.declared.rows.Row.{Row}
use Rattle.pd_tree.specs.Trees.{stand_of, stands_in}
use Rattle.pd_putting.proofs.PlaceLemmas.{none_of}
use Rattle.pd_putting.proofs.LeafLemmas.{one_row, many_not_single, held_not_single}
use Rattle.pd_putting.proofs.placing.is_single.Goals as goal

pub returns-clause-yes : goal.returns-clause-yes
returns-clause-yes c = λ t a A.
    let row = c.index-rows-0.result in
    let one = sym c.as_slice-rows.ensures.value ∙ one_row c.as_slice-rows.result.now row c.if-rows-ne1.false c.index-rows-0.is in
    let none = none_of row.sheet (sym c.is_some.ensures ∙ not-true c.is_some.result t) in
    record { cell = (stand_of row).cell; is = (c.single_boxes.ensures.rows row [] a.boxes A.one (ap stands_in (sym one) ∙ A.rows) none).1 }

pub returns-clause-no : goal.returns-clause-no
returns-clause-no c = λ f a A.
    let row = c.index-rows-0.result in
    held_not_single c.args.grown.now a A row
    (sym c.as_slice-rows.ensures.value ∙ one_row c.as_slice-rows.result.now row c.if-rows-ne1.false c.index-rows-0.is) (sym c.is_some.ensures ∙ not-false c.is_some.result f)

pub returns-then-rows-ne1-clause-no : goal.returns-then-rows-ne1-clause-no
returns-then-rows-ne1-clause-no c = λ _ a A.
    many_not_single c.args.grown.now a A (subst (λ (rows : List Row). length rows ≢ 1) c.as_slice-rows.ensures.value c.if-rows-ne1.true)
