use Rattle.std.proofs.Common.{[]}
use Rattle.slab.specs.Slab.{get}
use Rattle.pd_patch.specs.Orders.{signal_among, is_signal_node}
use Rattle.pd_patch.proofs.PushLemmas.{push_more, filter_parts}
use Rattle.pd_patch.proofs.orders.signal_boxes.Goals as goal

pub loop-key-preserved : goal.loop-key-preserved
loop-key-preserved c =
    push_more (signal_among c.args.grove.now) (filter_parts (λ k. is_signal_node (get c.args.grove.now.nodes k))) [] _ _ c.args.nodes.now c.loop-key.key-index 0 c.loop-key-test.true
    c.in_ok-push_signal_box.ensures c.loop-key.invariant
