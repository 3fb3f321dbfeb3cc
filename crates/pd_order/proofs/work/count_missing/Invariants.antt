use Rattle.std.proofs.Common.{◌≡◌, ◌+◌, length, take}
use Rattle.pd_order.specs.Graph.{missing}
use Rattle.pd_order.proofs.work.count_missing.Given as goal

abbrev pub invariant-loop-i : goal.invariant-loop-i
invariant-loop-i g l = record {
  count : l.count ≡ missing l.listed (take l.i ((g.G.SignalGraph.meaning l.graph).feeders l.node));
  steps : l.steps ≡ l.fn.steps + 1 + l.i;
  end : l.i-end ≡ length ((g.G.SignalGraph.meaning l.graph).feeders l.node);
}
