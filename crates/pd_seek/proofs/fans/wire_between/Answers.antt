use Rattle.std.proofs.Common.{Some, sym, ap, ◌∙◌}
use Rattle.pd_web.specs.Hops.{fan_keys, hop_to}
use Rattle.pd_seek.proofs.PlaceLemmas.{to_kept, passed_first, passed_step, passed_hit, passed_end}
use Rattle.pd_seek.proofs.fans.wire_between.Goals as goal

pub loop-next-init : goal.loop-next-init
loop-next-init c =
    let w = c.args.web.now in
    let l = c.args.line in
    passed_first l (fan_keys w l.source l.outlet) (hop_to w) c.fan_first-next.result (to_kept w) (c.laws.ensures.once l.source l.outlet) c.fan_first-next.ensures

pub loop-next-preserved : goal.loop-next-preserved
loop-next-preserved c =
    let w = c.args.web.now in
    let l = c.args.line in
    let step =
    passed_step l (fan_keys w l.source l.outlet) (hop_to w) c.loop-next.next c.in-Some.hop c.fan_next-next.result (to_kept w) (c.laws.ensures.once l.source l.outlet) c.loop-next.invariant c.in-Some.is
    (sym c.leads_along.ensures ∙ c.if-leads_along.false) (c.fan_next-next.ensures l.source l.outlet)
    in
    step.0

pub loop-next-smaller : goal.loop-next-smaller
loop-next-smaller c =
    let w = c.args.web.now in
    let l = c.args.line in
    let step =
    passed_step l (fan_keys w l.source l.outlet) (hop_to w) c.loop-next.next c.in-Some.hop c.fan_next-next.result (to_kept w) (c.laws.ensures.once l.source l.outlet) c.loop-next.invariant c.in-Some.is
    (sym c.leads_along.ensures ∙ c.if-leads_along.false) (c.fan_next-next.ensures l.source l.outlet)
    in
    step.1

pub returns-then-leads_along : goal.returns-then-leads_along
returns-then-leads_along c =
    let w = c.args.web.now in
    let l = c.args.line in
    ap (λ k. Some k) c.key.ensures
    ∙ passed_hit l (fan_keys w l.source l.outlet) (hop_to w) c.loop-next.next c.in-Some.hop c.loop-next.invariant c.in-Some.is (sym c.leads_along.ensures ∙ c.if-leads_along.true)

pub returns : goal.returns
returns c =
    let w = c.args.web.now in
    let l = c.args.line in passed_end l (fan_keys w l.source l.outlet) (hop_to w) c.loop-next.next c.loop-next.invariant c.in_default.is
