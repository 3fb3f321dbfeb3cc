use Rattle.std.proofs.Common.{◌+◌, ◌≤◌}
use Rattle.pd_bench_orders.proofs.wires.cut_and_add.Given as goal

abbrev pub invariant-loop-i : goal.invariant-loop-i
invariant-loop-i g l = l.few ≤ l.board.book.spare_wires + l.i
