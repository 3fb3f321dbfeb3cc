use Rattle.std.proofs.Common.{◌≡◌, ℕ, List, ◌++◌, ap, ◌∙◌, subst}
use Rattle.pd_web.specs.Hops.{fan_hops}
use Rattle.pd_misfits.specs.declared.wires.BoxWire.{BoxWire}
use Rattle.pd_misfits.specs.Misfits.{wire_from, wire_of, wire_picked}
use Rattle.pd_misfits.proofs.WalkLemmas.{fan_once, walk_all, walk_first, walk_next, walk_smaller, IsWalked}
use Rattle.pd_misfits.proofs.gathering.push_outlet.Goals as goal

pub loop-next-init : goal.loop-next-init
loop-next-init c =
    let w = c.args.web.now in
    let o = c.args.outlet in
    walk_first (wire_from c.args.fate w c.args.numbers.now c.args.key c.args.kind.now o.node o.port) (fan_hops w o.node o.port) c.args.found.now.items c.fan_first-next.result c.fan_first-next.ensures

pub loop-next-preserved : goal.loop-next-preserved
loop-next-preserved c =
    let w = c.args.web.now in
    let o = c.args.outlet in
    let f = wire_from c.args.fate w c.args.numbers.now c.args.key c.args.kind.now o.node o.port in
    let hops = fan_hops w o.node o.port in
    let W = subst (λ x. IsWalked f hops c.args.found.now.items c.loop-next.found.items x) c.in-Some.is c.loop-next.invariant in
    let old = c.loop-next.found.items in
    let along : BoxWire → List BoxWire = wire_picked c.args.fate w c.args.key c.args.kind.now in
    let told : ℕ → ℕ → ℕ → BoxWire = λ x n i. wire_of c.args.numbers.now x (record { source = o.node; outlet = o.port; sink = n; inlet = i }) in
    let is : c.wire_of-wire.result ≡ told c.in-Some.hop.key c.in-Some.hop.node c.in-Some.hop.port =
    c.wire_of-wire.ensures ∙ ap (λ x. told x c.node.result c.port.result) c.key.ensures ∙ ap (λ n. told c.in-Some.hop.key n c.port.result) c.node.ensures
    ∙ ap (λ i. told c.in-Some.hop.key c.in-Some.hop.node i) c.port.ensures in
    let pushed : c.push_wire.new.found.items ≡ old ++ f c.in-Some.hop = c.in_ok-push_wire.ensures ∙ ap (λ m. old ++ along m) is in
    walk_next f hops c.args.found.now.items c.loop-next.found.items c.push_wire.new.found.items c.in-Some.hop c.fan_next-next.result W pushed (c.fan_next-next.ensures o.node o.port)

pub loop-next-smaller : goal.loop-next-smaller
loop-next-smaller c =
    let w = c.args.web.now in
    let o = c.args.outlet in
    let f = wire_from c.args.fate w c.args.numbers.now c.args.key c.args.kind.now o.node o.port in
    let hops = fan_hops w o.node o.port in
    walk_smaller f hops c.args.found.now.items c.loop-next.found.items c.loop-next.next c.fan_next-next.result c.in-Some.hop c.in-Some.is (fan_once w o.node o.port (c.laws.ensures.once o.node o.port))
    c.loop-next.invariant (c.fan_next-next.ensures o.node o.port)

pub returns : goal.returns
returns c =
    let w = c.args.web.now in
    let o = c.args.outlet in
    walk_all (wire_from c.args.fate w c.args.numbers.now c.args.key c.args.kind.now o.node o.port) (fan_hops w o.node o.port) c.args.found.now.items c.loop-next.found.items c.loop-next.next c.in_default.is c.loop-next.invariant
