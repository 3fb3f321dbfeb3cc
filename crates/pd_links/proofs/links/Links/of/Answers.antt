use Rattle.pd_links.proofs.LinkLemmas.{linked_next, linked_all}
use Rattle.pd_links.proofs.links.Links.of.Goals as goal

pub loop-wire-preserved : goal.loop-wire-preserved
loop-wire-preserved c = linked_next _ _ _ _ _ c.loop-wire-test.true c.loop-wire.invariant c.in_ok-push.ensures

pub returns : goal.returns
returns c = linked_all c.loop-wire.links c.args.wires.now c.loop-wire.wire-index c.loop-wire-test.false c.loop-wire.invariant
