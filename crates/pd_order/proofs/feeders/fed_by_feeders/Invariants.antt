use Rattle.std.proofs.Common.{◌≡◌, ℕ, ◌+◌, ◌<◌, ◌≤◌, length, take}
use Rattle.pd_order.specs.Graph.{missing}
use Rattle.pd_order.proofs.feeders.fed_by_feeders.Given as goal

abbrev pub invariant-loop-i : goal.invariant-loop-i
invariant-loop-i g l = record {
  within : l.after ≤ length l.chain;
  fed : missing (take l.after l.chain) (take l.i ((g.G.SignalGraph.meaning l.graph).feeders l.node)) ≡ 0;
  earlier : (j : ℕ) → j < l.after → 0 < missing (take j l.chain) (take l.i ((g.G.SignalGraph.meaning l.graph).feeders l.node));
  steps : l.steps ≡ l.fn.steps + 1 + l.i;
  end : l.i-end ≡ length ((g.G.SignalGraph.meaning l.graph).feeders l.node);
}
