use Rattle.std.proofs.Common.{◌≡◌, ◌+◌, ◌-◌, ◌≤◌, ◌++◌, length, map, take, slice_get}
use Rattle.pd_web.specs.Hops.{fan_hops}
use Rattle.pd_present.specs.Presents.{wire_along}
use Rattle.pd_present.proofs.wires.push_outlet_wires.Given as goal

abbrev pub invariant-loop-next : goal.invariant-loop-next
invariant-loop-next l = record {
  begun : length l.fn.wires.items ≤ length l.wires.items;
  done : l.wires.items ≡ l.fn.wires.items ++ map (wire_along l.numbers l.key l.outlet) (take (length l.wires.items - length l.fn.wires.items) (fan_hops l.web l.key l.outlet));
  next : l.next ≡ slice_get (fan_hops l.web l.key l.outlet) (length l.wires.items - length l.fn.wires.items);
}

abbrev pub decreases-loop-next : goal.decreases-loop-next
decreases-loop-next l = length (fan_hops l.web l.key l.outlet) + length l.fn.wires.items - length l.wires.items
