use Rattle.std.proofs.Common.{◌≡◌, take}
use Rattle.pd_patch.specs.Orders.{signal_among}
use Rattle.pd_patch.proofs.orders.signal_boxes.Given as goal

abbrev pub invariant-loop-key : goal.invariant-loop-key
invariant-loop-key l = l.signal.items ≡ signal_among l.grove (take l.key-index l.nodes)
