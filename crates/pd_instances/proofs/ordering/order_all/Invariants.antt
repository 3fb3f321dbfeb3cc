use Rattle.std.proofs.Common.{◌≡◌, ◌≤◌, ◌+◌, length, take, drop, vec_capacity}
use Rattle.std.specs.List.{AllZip, flat_map}
use Rattle.pd_grove.specs.TextOrder.{keys_of_spots}
use Rattle.pd_instances.specs.Needs.{inside_at, IsOrderRoom}
use Rattle.pd_instances.specs.Layers.{OrdersAll}
use Rattle.pd_instances.specs.Part.{looks_of}
use Rattle.pd_instances.proofs.ordering.order_all.Given as goal

abbrev pub invariant-loop-spot : goal.invariant-loop-spot
invariant-loop-spot g l = record {
  orders : OrdersAll l.grove l.links l.fn.orders.items l.orders.items (keys_of_spots (take l.spot-index l.spots));
  slots : length l.orders.items ≡ length l.fn.orders.items;
  rooms : AllZip IsOrderRoom (flat_map (inside_at l.grove) (keys_of_spots (drop l.spot-index l.spots))) l.rooms.items;
  list : vec_capacity l.signal ≡ vec_capacity l.fn.signal;
  looks : l.steps ≤ l.fn.steps + looks_of l.grove l.links (keys_of_spots (take l.spot-index l.spots));
}
