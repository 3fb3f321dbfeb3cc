use Rattle.std.proofs.Common.{◌≡◌}
use Rattle.pd_order.specs.Wired.{numbers_below}
use Rattle.pd_patch.specs.Orders.{signal_wires_among}
use Rattle.pd_patch.proofs.linking.links_of.Given as goal

abbrev pub invariant-loop-key : goal.invariant-loop-key
invariant-loop-key l = l.wires.items ≡ signal_wires_among l.web (numbers_below l.key)
