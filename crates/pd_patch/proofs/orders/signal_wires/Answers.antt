use Rattle.std.proofs.Common.{[]}
use Rattle.pd_patch.specs.Orders.{box_wires}
use Rattle.pd_patch.proofs.PushLemmas.{push_each}
use Rattle.pd_patch.proofs.orders.signal_wires.Goals as goal

pub loop-key-preserved : goal.loop-key-preserved
loop-key-preserved c =
    push_each (box_wires c.args.web.now) [] _ _ c.args.signal.now c.loop-key.key-index 0 c.loop-key-test.true
    c.in_ok-push_box_wires.ensures c.loop-key.invariant
