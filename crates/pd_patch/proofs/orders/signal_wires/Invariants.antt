use Rattle.std.proofs.Common.{◌≡◌, take}
use Rattle.pd_patch.specs.Orders.{signal_wires_among}
use Rattle.pd_patch.proofs.orders.signal_wires.Given as goal

abbrev pub invariant-loop-key : goal.invariant-loop-key
invariant-loop-key l = l.wires.items ≡ signal_wires_among l.web (take l.key-index l.signal)
