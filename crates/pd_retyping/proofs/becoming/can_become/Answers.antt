use Rattle.std.proofs.Common.{◌≡◌, [], ◌∷◌, sym, ap, ◌∙◌, subst}
use Rattle.std.specs.Option.{option_copied}
use Rattle.std.proofs.lemmas.Option.{same_Some}
use Rattle.pd_grove.specs.declared.nodes.Node.{Node}
use Rattle.pd_tree.specs.Trees.{stands_in}
use Rattle.pd_retyping.specs.Becoming.{IsAlike}
use Rattle.pd_retyping.proofs.AlikeLemmas.{none_of}
use Rattle.pd_retyping.proofs.BecomeLemmas.{alike_of, can_become, one_row}
use Rattle.pd_retyping.proofs.becoming.can_become.Goals as goal

pub returns-in-Some-clause-yes : goal.returns-in-Some-clause-yes
returns-in-Some-clause-yes c = λ t n a is A.
    let row = c.index-rows-0.result in
    let same : c.in-Some.node.now ≡ n = same_Some c.in-Some.node.now n (sym (sym c.node.ensures ∙ ap option_copied c.in-Some.is) ∙ is) in
    let r : c.args.grown.now.rows.items ≡ row ∷ [] = sym c.as_slice-rows.ensures.value ∙ one_row c.as_slice-rows.result.now row c.if-rows-ne1.false c.index-rows-0.is in
    let single = c.single_boxes.ensures.rows row [] a.boxes A.one (ap stands_in (sym r) ∙ A.rows) (none_of row.sheet (sym c.is_some.ensures ∙ c.if-is_some.false)) in
    can_become c.args.patch.now c.args.key n c.args.grown.now a A row single.1 (subst (λ (x : Node). IsAlike c.args.patch.now x row.kind) same (c.is_alike.ensures.yes t))

pub returns-in-Some-clause-no : goal.returns-in-Some-clause-no
returns-in-Some-clause-no c = λ f n a is A P.
    let row = c.index-rows-0.result in
    let same : c.in-Some.node.now ≡ n = same_Some c.in-Some.node.now n (sym (sym c.node.ensures ∙ ap option_copied c.in-Some.is) ∙ is) in
    let r : c.args.grown.now.rows.items ≡ row ∷ [] = sym c.as_slice-rows.ensures.value ∙ one_row c.as_slice-rows.result.now row c.if-rows-ne1.false c.index-rows-0.is in
    c.is_alike.ensures.no f (subst (λ (x : Node). IsAlike c.args.patch.now x row.kind) (sym same) (alike_of c.args.patch.now c.args.key n c.args.grown.now a A row r P))
