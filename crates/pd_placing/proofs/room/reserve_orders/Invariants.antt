use Rattle.std.proofs.Common.{◌≡◌, ◌≤◌, ℕ, length}
use Rattle.pd_patch.specs.Telling.{order_in}
use Rattle.pd_placing.proofs.room.reserve_orders.Given as goal

abbrev pub invariant-loop : goal.invariant-loop
invariant-loop l = record {
  same : (c : ℕ) → order_in l.orders.items c ≡ order_in l.fn.orders.items c;
  longer : length l.fn.orders.items ≤ length l.orders.items;
  count : l.counter ≤ length l.orders.items;
}
