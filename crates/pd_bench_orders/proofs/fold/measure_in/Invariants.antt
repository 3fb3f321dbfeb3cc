use Rattle.std.proofs.Common.{◌≤◌}
use Rattle.pd_bench_orders.proofs.fold.measure_in.Given as goal

abbrev pub invariant-loop-fold : goal.invariant-loop-fold
invariant-loop-fold g l = l.count ≤ l.order.room
