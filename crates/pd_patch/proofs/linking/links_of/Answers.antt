use Rattle.std.proofs.Common.{arith, subst}
use Rattle.pd_links.specs.Linked.{AreLinked}
use Rattle.pd_patch.proofs.OrderLemmas.{few_hops}
use Rattle.pd_patch.proofs.LinkingLemmas.{among_next, links_told}
use Rattle.pd_patch.proofs.linking.links_of.Goals as goal

pub push_box_wires-requires : goal.push_box_wires-requires
push_box_wires-requires c = record { few = λ outlet. few_hops c.args.grove.now c.args.web.now c.loop-key.key outlet (c.requires.fans c.loop-key.key outlet) c.requires.few }

pub loop-key-preserved : goal.loop-key-preserved
loop-key-preserved c =
    among_next c.args.web.now c.loop-key.key c.loop-key.wires.items c.push_box_wires.new.wires.items c.in_ok-push_box_wires.ensures c.loop-key.invariant

pub returns : goal.returns
returns c =
    let high = c.in_ok-end.ensures.above in
    let past = c.loop-key-test.false in
    links_told c.args.grove.now c.args.web.now c.in_ok-links.links c.loop-key.key c.loop-key.wires.items c.requires (omega (arith, high, past)) c.loop-key.invariant
    (subst (AreLinked c.in_ok-links.links) c.as_slice.ensures.value c.in_ok-links.ensures)
