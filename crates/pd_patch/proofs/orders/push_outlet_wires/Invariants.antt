use Rattle.std.proofs.Common.{◌≡◌, ◌++◌, take}
use Rattle.std.specs.Prelude.{slice_get}
use Rattle.pd_web.specs.Hops.{fan_hops}
use Rattle.pd_patch.specs.Orders.{wires_by}
use Rattle.pd_patch.proofs.orders.push_outlet_wires.Given as goal

abbrev pub invariant-loop : goal.invariant-loop
invariant-loop l = record {
  next : l.next ≡ slice_get (fan_hops l.web l.node l.outlet) l.counter;
  wires : l.wires.items ≡ l.fn.wires.items ++ wires_by l.web l.node (take l.counter (fan_hops l.web l.node l.outlet));
}
