use Rattle.std.proofs.Common.{◌≡◌, ◌++◌}
use Rattle.pd_patch.specs.Orders.{wires_below}
use Rattle.pd_patch.proofs.orders.push_box_wires.Given as goal

abbrev pub invariant-loop-outlet : goal.invariant-loop-outlet
invariant-loop-outlet l = l.wires.items ≡ l.fn.wires.items ++ wires_below l.web l.node l.outlet
