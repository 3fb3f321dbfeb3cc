use Rattle.std.proofs.Common.{◌≡◌, ◌+◌, ◌≤◌, length, drop}
use Rattle.pd_order.specs.Wired.{ends_at}
use Rattle.pd_cases.proofs.orders.count_ends.Given as goal

abbrev pub invariant-loop-i : goal.invariant-loop-i
invariant-loop-i l = record {
  counted : l.count + length (ends_at (drop l.i l.near) (drop l.i l.far) l.node) ≡ length (ends_at l.near l.far l.node);
  low : l.count ≤ l.i;
}
