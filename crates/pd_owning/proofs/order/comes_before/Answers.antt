use Rattle.std.proofs.Common.{◌≡◌, ◌-◌, Some, false, sym, ap, ◌∙◌, arith}
use Rattle.std.specs.Prelude.{min, nat_lt}
use Rattle.std.proofs.lemmas.Bool.{lt-ltb, le-ltb}
use Rattle.slab.specs.Slab.{get}
use Rattle.pd_owning.specs.Order.{box_out, level}
use Rattle.pd_owning.proofs.OrderLemmas.{answered}
use Rattle.pd_owning.proofs.AnswerLemmas.{answer_same, answer_apart, answer_none, answer_other_none}
use Rattle.pd_owning.proofs.order.comes_before.Goals as goal

pub returns-in_default : goal.returns-in_default
returns-in_default c =
    let g = c.args.grove.now in
    let a = c.args.node in
    let b = c.args.other in
    let s = c.min-shared.result in
    let least : s ≡ min (level (get g.nodes) (get g.boards) a) (level (get g.nodes) (get g.boards) b) = omega (arith, c.min-shared.ensures, c.level_of-depth.ensures, c.level_of-other_depth.ensures) in
    answered g c.requires.forest a b false
    (answer_none (get g.nodes) (get g.boards) g.root c.requires.forest a b s least
    (ap (λ m. box_out (get g.nodes) (get g.boards) (m - s) a) (sym c.level_of-depth.ensures) ∙ sym c.out_from.ensures ∙ c.in_default.is))

pub returns-in_default-out_from : goal.returns-in_default-out_from
returns-in_default-out_from c =
    let g = c.args.grove.now in
    let a = c.args.node in
    let b = c.args.other in
    let s = c.min-shared.result in
    let least : s ≡ min (level (get g.nodes) (get g.boards) a) (level (get g.nodes) (get g.boards) b) = omega (arith, c.min-shared.ensures, c.level_of-depth.ensures, c.level_of-other_depth.ensures) in
    answered g c.requires.forest a b false
    (answer_other_none (get g.nodes) (get g.boards) g.root c.requires.forest a b s least
    (ap (λ m. box_out (get g.nodes) (get g.boards) (m - s) b) (sym c.level_of-other_depth.ensures) ∙ sym c.out_from-2.ensures ∙ c.in_default-out_from.is))

pub returns-then-outer-other_outer : goal.returns-then-outer-other_outer
returns-then-outer-other_outer c =
    let g = c.args.grove.now in
    let a = c.args.node in
    let b = c.args.other in
    let s = c.min-shared.result in
    let d = c.level_of-depth.result in
    let e = c.level_of-other_depth.result in
    let least : s ≡ min (level (get g.nodes) (get g.boards) a) (level (get g.nodes) (get g.boards) b) = omega (arith, c.min-shared.ensures, c.level_of-depth.ensures, c.level_of-other_depth.ensures) in
    answered g c.requires.forest a b (nat_lt d e)
    (answer_same (get g.nodes) (get g.boards) g.root c.requires.forest a b s c.in-Some.outer (nat_lt d e) least
    (ap (λ m. box_out (get g.nodes) (get g.boards) (m - s) a) (sym c.level_of-depth.ensures) ∙ sym c.out_from.ensures ∙ c.in-Some.is)
    (ap (λ m. box_out (get g.nodes) (get g.boards) (m - s) b) (sym c.level_of-other_depth.ensures) ∙ sym c.out_from-2.ensures ∙ c.in-Some-out_from.is ∙ ap (λ x. Some x) (sym c.if-outer-other_outer.true))
    (λ l. lt-ltb d e (omega (arith, l, c.level_of-depth.ensures, c.level_of-other_depth.ensures)))
    (λ l. le-ltb d e (omega (arith, l, c.level_of-depth.ensures, c.level_of-other_depth.ensures))))

pub returns : goal.returns
returns c =
    let g = c.args.grove.now in
    let a = c.args.node in
    let b = c.args.other in
    let s = c.min-shared.result in
    let least : s ≡ min (level (get g.nodes) (get g.boards) a) (level (get g.nodes) (get g.boards) b) = omega (arith, c.min-shared.ensures, c.level_of-depth.ensures, c.level_of-other_depth.ensures) in
    answered g c.requires.forest a b c.leads.result
    (answer_apart (get g.nodes) (get g.boards) g.root c.requires.forest a b s c.in-Some.outer c.in-Some-out_from.other_outer c.leads.result least
    (ap (λ m. box_out (get g.nodes) (get g.boards) (m - s) a) (sym c.level_of-depth.ensures) ∙ sym c.out_from.ensures ∙ c.in-Some.is)
    (ap (λ m. box_out (get g.nodes) (get g.boards) (m - s) b) (sym c.level_of-other_depth.ensures) ∙ sym c.out_from-2.ensures ∙ c.in-Some-out_from.is)
    c.if-outer-other_outer.false c.leads.ensures)
