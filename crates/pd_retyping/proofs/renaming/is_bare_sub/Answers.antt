use Rattle.std.proofs.Common.{sym, ◌∙◌}
use Rattle.std.proofs.lemmas.Bool.{true≢false}
use Rattle.pd_retyping.proofs.BecomeLemmas.{one_row}
use Rattle.pd_retyping.proofs.TakeLemmas.{bare_form, bare_is, bare_kind, bare_one, bare_sheet, bare_whole}
use Rattle.pd_retyping.proofs.renaming.is_bare_sub.Goals as goal

pub returns-then-rows-ne1-clause-no : goal.returns-then-rows-ne1-clause-no
returns-then-rows-ne1-clause-no c = λ f t e B. absurd (c.if-rows-ne1.true (bare_one c.args.rows.now t e B))

pub returns-then-not-is_some-clause-no : goal.returns-then-not-is_some-clause-no
returns-then-not-is_some-clause-no c = λ f t e B.
    let row = c.index-rows-0.result in
    absurd (true≢false (sym (bare_sheet c.args.rows.now row (one_row c.args.rows.now row c.if-rows-ne1.false c.index-rows-0.is) t e B) ∙ sym c.is_some.ensures ∙ c.if-not-is_some.true))

pub returns-then-not-is_subpatch-clause-no : goal.returns-then-not-is_subpatch-clause-no
returns-then-not-is_subpatch-clause-no c = λ f t e B.
    let row = c.index-rows-0.result in
    c.is_subpatch.ensures.no c.if-not-is_subpatch.true (bare_form c.args.rows.now row (one_row c.args.rows.now row c.if-rows-ne1.false c.index-rows-0.is) t e B)

pub returns-clause-yes : goal.returns-clause-yes
returns-clause-yes c = λ r t one e.
    let row = c.index-rows-0.result in
    bare_is c.args.rows.now row (one_row c.args.rows.now row c.if-rows-ne1.false c.index-rows-0.is) t e (sym c.is_some.ensures ∙ c.if-not-is_some.false)
    (c.is_subpatch.ensures.yes c.if-not-is_subpatch.false) (c.is_whole.ensures.canvas r) (c.is_whole.ensures.whole r) one

pub returns-clause-no : goal.returns-clause-no
returns-clause-no c = λ f t e B.
    let row = c.index-rows-0.result in
    let r = one_row c.args.rows.now row c.if-rows-ne1.false c.index-rows-0.is in
    c.is_whole.ensures.no f (bare_kind c.args.rows.now row r t e B) (bare_whole c.args.rows.now row r t e B)
