use Rattle.std.proofs.Common.{◌≡◌, ℕ, ◌≤◌}
use Rattle.pd_order.specs.Graph.{tally}
use Rattle.pd_bench_edits.specs.Nets.{behind}
use Rattle.pd_bench_edits.proofs.nets.keys.Given as goal

abbrev pub invariant-loop-key : goal.invariant-loop-key
invariant-loop-key l = (1 ≤ l.key) × ((x : ℕ) → tally x l.made.items ≡ tally x (behind l.key))
