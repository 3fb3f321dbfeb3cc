use Rattle.std.proofs.Common.{ℕ, ◌<◌, ◌≤◌, get_or}
use Rattle.pd_order.proofs.mend.has_higher_between.Given as goal

abbrev pub invariant-loop-at : goal.invariant-loop-at
invariant-loop-at g l = record {
  within : l.at ≤ l.to;
  low : (k : ℕ) → l.at ≤ k → k < l.to → (g.G.SignalGraph.meaning l.graph).rank (get_or l.chain k 0) ≤ (g.G.SignalGraph.meaning l.graph).rank l.node;
}

abbrev pub decreases-loop-at : goal.decreases-loop-at
decreases-loop-at g l = l.at
