use Rattle.std.proofs.Common.{ℕ, ◌<◌, ◌≤◌, ◌≢◌, get_or}
use Rattle.pd_order.proofs.mend.first_behind.Given as goal

abbrev pub invariant-loop-i : goal.invariant-loop-i
invariant-loop-i g l = (k : ℕ) → l.from ≤ k → k < l.i → (get_or l.chain k 0 ≢ l.node) × ((g.G.SignalGraph.meaning l.graph).rank (get_or l.chain k 0) < (g.G.SignalGraph.meaning l.graph).rank l.node)
