use Rattle.std.proofs.Common.{sym, ◌∙◌}
use Rattle.pd_putting.proofs.LeafLemmas.{one_row}
use Rattle.pd_putting.proofs.SubLemmas.{sub_is}
use Rattle.pd_putting.proofs.placing.is_sub.Goals as goal

pub returns-clause-yes : goal.returns-clause-yes
returns-clause-yes c = λ t number a A.
    let row = c.index-rows-0.result in
    sub_is c.args.patch.now c.args.grown.now number a A row (sym c.as_slice-rows.ensures.value ∙ one_row c.as_slice-rows.result.now row c.if-rows-ne1.false c.index-rows-0.is)
    (sym c.is_some.ensures ∙ c.if-not-is_some.false) (c.is_subpatch.ensures.yes c.if-not-is_subpatch.false) (c.is_canvas.ensures.yes c.if-not-is_canvas.false) (sym c.is_shallow.ensures ∙ t)
