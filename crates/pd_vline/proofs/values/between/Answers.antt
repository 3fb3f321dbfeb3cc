use Rattle.std.proofs.Common.{◌≡◌, ℤ, pos, ◌-ℤ◌, ◌*ℤ◌, int_div, subst, rules}
use Rattle.std.proofs.lemmas.Int.{to_z-of_z}
use mir.Syntax.{w128}
use mir.Val.{SFits}
use Rattle.pd_vline.specs.Values.{IsPart}
use Rattle.pd_vline.proofs.ValueLemmas.{is_part}
use Rattle.pd_vline.proofs.values.between.Goals as goal

pub on_way-requires-clause-part : goal.on_way-requires-clause-part
on_way-requires-clause-part c =
    let fe : SFits w128 c.wide-end.result = search rules in
    let fs : SFits w128 c.wide-start.result = search rules in
    let fw : SFits w128 c.way_between.result = search rules in
    let fp : SFits w128 c.part_of-part.result = search rules in
    let w : c.way_between.result ≡ c.wide-end.result -ℤ c.wide-start.result = simp to_z-of_z at c.way_between.ensures.way in
    let p : c.part_of-part.result ≡ int_div (c.way_between.result *ℤ pos c.args.done) (pos c.args.length) = simp to_z-of_z at c.part_of-part.ensures in
    simp to_z-of_z (subst (λ (z : ℤ). IsPart z c.part_of-part.result) w (is_part _ _ _ _ p c.requires.order))
