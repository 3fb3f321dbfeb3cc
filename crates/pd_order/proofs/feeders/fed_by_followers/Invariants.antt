use Rattle.std.proofs.Common.{◌≡◌, ℕ, ◌+◌, ◌<◌, ◌≤◌, length, get_or}
use Rattle.pd_order.specs.Graph.{tally}
use Rattle.pd_order.proofs.feeders.fed_by_followers.Given as goal

abbrev pub invariant-loop-after : goal.invariant-loop-after
invariant-loop-after g l = record {
  within : l.after ≤ l.at;
  none : (i : ℕ) → l.after ≤ i → i < l.at → tally (get_or l.chain i 0) ((g.G.SignalGraph.meaning l.graph).feeders l.node) ≡ 0;
  steps : l.steps + l.left ≤ l.fn.steps + 1 + length ((g.G.SignalGraph.meaning l.graph).feeders l.node);
}

abbrev pub decreases-loop-after : goal.decreases-loop-after
decreases-loop-after g l = l.after
