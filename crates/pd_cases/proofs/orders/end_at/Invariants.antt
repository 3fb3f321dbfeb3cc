use Rattle.std.proofs.Common.{◌≡◌, ◌<◌, length, drop, get_or}
use Rattle.pd_order.specs.Wired.{ends_at}
use Rattle.pd_cases.proofs.orders.end_at.Given as goal

abbrev pub invariant-loop-k : goal.invariant-loop-k
invariant-loop-k l = record {
  same : get_or (ends_at (drop l.k l.near) (drop l.k l.far) l.node) l.left 0 ≡ get_or (ends_at l.near l.far l.node) l.i 0;
  there : l.left < length (ends_at (drop l.k l.near) (drop l.k l.far) l.node);
}
