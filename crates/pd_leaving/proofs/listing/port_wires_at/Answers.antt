use Rattle.std.proofs.Common.{◌≡◌, ℕ, List, [], ◌∷◌, ◌++◌, map, sym, ap, ◌∙◌, subst}
use Rattle.pd_web.specs.declared.web.Hop.{Hop}
use Rattle.pd_taking.specs.Loosening.{hops_at}
use Rattle.pd_misfits.specs.declared.wires.BoxWire.{BoxWire}
use Rattle.pd_misfits.specs.Shedding.{AreWiresAt}
use Rattle.pd_misfits.proofs.WalkLemmas.{walk_all, walk_next, walk_smaller, IsWalked}
use Rattle.pd_leaving.specs.Wires.{wire_at}
use Rattle.pd_leaving.proofs.PortWalkLemmas.{port_once}
use Rattle.pd_leaving.proofs.PortWireLemmas.{are_wires, one_each}
use Rattle.pd_leaving.proofs.listing.port_wires_at.Goals as goal

pub loop-next-preserved : goal.loop-next-preserved
loop-next-preserved c =
    let p = c.args.patch.now in
    let o = c.args.port in
    let f : Hop → List BoxWire = (λ h. wire_at p.numbers.items o.side o.node o.port h ∷ []) in
    let hops = hops_at p.web o.side o.node o.port in
    let old = c.loop-next.found.items in
    let W = subst (λ x. IsWalked f hops [] old x) c.in-Some.is c.loop-next.invariant in
    let is : c.wire_at.result ≡ wire_at p.numbers.items o.side o.node o.port c.in-Some.hop =
    c.wire_at.ensures ∙ ap (λ (ns : List ℕ). wire_at ns o.side o.node o.port c.in-Some.hop) c.as_slice.ensures.value in
    let pushed : c.push.new.self.items ≡ old ++ f c.in-Some.hop = c.in_ok-push.ensures.items ∙ ap (λ (m : BoxWire). old ++ m ∷ []) is in
    walk_next f hops [] old c.push.new.self.items c.in-Some.hop c.next_at-next.result W pushed c.next_at-next.ensures

pub loop-next-smaller : goal.loop-next-smaller
loop-next-smaller c =
    let p = c.args.patch.now in
    let o = c.args.port in
    let f : Hop → List BoxWire = (λ h. wire_at p.numbers.items o.side o.node o.port h ∷ []) in
    let hops = hops_at p.web o.side o.node o.port in
    walk_smaller f hops [] c.loop-next.found.items c.loop-next.next c.next_at-next.result c.in-Some.hop c.in-Some.is
    (port_once p.web c.laws.ensures.once c.laws.ensures.once_fed o.side o.node o.port) c.loop-next.invariant c.next_at-next.ensures

pub returns-clause-told : goal.returns-clause-told
returns-clause-told c =
    let p = c.args.patch.now in
    let o = c.args.port in
    let hops = hops_at p.web o.side o.node o.port in
    walk_all (λ h. wire_at p.numbers.items o.side o.node o.port h ∷ []) hops [] c.loop-next.found.items c.loop-next.next c.in_default.is c.loop-next.invariant
    ∙ one_each (wire_at p.numbers.items o.side o.node o.port) hops

pub returns-clause-wires : goal.returns-clause-wires
returns-clause-wires c =
    let p = c.args.patch.now in
    let o = c.args.port in
    let hops = hops_at p.web o.side o.node o.port in
    let told : c.loop-next.found.items ≡ map (wire_at p.numbers.items o.side o.node o.port) hops =
    walk_all (λ h. wire_at p.numbers.items o.side o.node o.port h ∷ []) hops [] c.loop-next.found.items c.loop-next.next c.in_default.is c.loop-next.invariant
    ∙ one_each (wire_at p.numbers.items o.side o.node o.port) hops in
    subst (AreWiresAt p.web o.node) (sym told)
    (are_wires p.web p.numbers.items o.node o.port o.side c.requires.meet (port_once p.web c.laws.ensures.once c.laws.ensures.once_fed o.side o.node o.port))
