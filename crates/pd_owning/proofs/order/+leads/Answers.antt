use Rattle.std.proofs.Common.{◌≡◌, ◌-◌, ◌≤◌, sym, ◌∙◌, subst, arith}
use Rattle.std.proofs.lemmas.Bool.{both_ways}
use Rattle.std.proofs.lemmas.Option.{none-some, same_Some}
use Rattle.slab.specs.Slab.{get}
use Rattle.pd_owning.specs.Order.{StandBeside}
use Rattle.pd_owning.proofs.AnswerLemmas.{here, outer}
use Rattle.pd_owning.proofs.order.+leads.Goals as goal

pub returns-then-lie_together : goal.returns-then-lie_together
returns-then-lie_together t c = λ m i j within d B.
    let g = c.args.grove.now in
    here (get g.nodes) (get g.boards) g.root c.requires.forest m c.args.node c.args.other i j c.is_before.result (c.lie_together.ensures.0 c.if-lie_together.true) d B c.is_before.ensures

pub returns-in_default : goal.returns-in_default
returns-in_default t c = λ m i j within d B.
    let g = c.args.grove.now in
    let O = outer (get g.nodes) (get g.boards) g.root c.requires.forest m c.args.node c.args.other i j (λ e. both_ways c.lie_together.result c.if-lie_together.false (c.lie_together.ensures.1 e)) B in
    absurd (none-some O.first (sym c.in_default.is ∙ c.holder.ensures ∙ O.holds))

pub returns-in_default-holder : goal.returns-in_default-holder
returns-in_default-holder t c = λ m i j within d B.
    let g = c.args.grove.now in
    let O = outer (get g.nodes) (get g.boards) g.root c.requires.forest m c.args.node c.args.other i j (λ e. both_ways c.lie_together.result c.if-lie_together.false (c.lie_together.ensures.1 e)) B in
    absurd (none-some O.second (sym c.in_default-holder.is ∙ c.holder-2.ensures ∙ O.other_holds))

pub returns : goal.returns
returns t c = λ m i j within d B.
    let g = c.args.grove.now in
    let O = outer (get g.nodes) (get g.boards) g.root c.requires.forest m c.args.node c.args.other i j (λ e. both_ways c.lie_together.result c.if-lie_together.false (c.lie_together.ensures.1 e)) B in
    let one = O.one_less in
    let low : O.rest ≤ c.args.canvases - 1 = omega (arith, within, one) in
    let first : O.first ≡ c.in-Some.outer = same_Some O.first c.in-Some.outer (sym O.holds ∙ sym c.holder.ensures ∙ c.in-Some.is) in
    let second : O.second ≡ c.in-Some-holder.other_outer = same_Some O.second c.in-Some-holder.other_outer (sym O.other_holds ∙ sym c.holder-2.ensures ∙ c.in-Some-holder.is) in
    c.leads.ensures O.rest i j low d
    (subst (λ x. StandBeside (get g.nodes) (get g.boards) O.rest O.rest x c.in-Some-holder.other_outer i j) first
    (subst (λ y. StandBeside (get g.nodes) (get g.boards) O.rest O.rest O.first y i j) second O.beside))
