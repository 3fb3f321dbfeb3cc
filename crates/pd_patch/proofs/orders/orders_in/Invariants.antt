use Rattle.std.proofs.Common.{◌≡◌, ℕ, ◌<◌, length}
use Rattle.slab.specs.Slab.{get}
use Rattle.pd_patch.specs.Telling.{order_in}
use Rattle.pd_patch.specs.Orders.{HasOrder}
use Rattle.pd_patch.proofs.orders.orders_in.Given as goal

abbrev pub invariant-loop-key : goal.invariant-loop-key
invariant-loop-key g l = record {
  count : length l.orders.items ≡ l.key;
  each : (c : ℕ) → c < l.key → HasOrder l.grove l.web (get l.grove.boards c) (order_in l.orders.items c);
}
