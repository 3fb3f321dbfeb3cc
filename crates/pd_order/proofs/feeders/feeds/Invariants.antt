use Rattle.std.proofs.Common.{◌≡◌, ◌+◌, take}
use Rattle.pd_order.specs.Graph.{tally}
use Rattle.pd_order.proofs.feeders.feeds.Given as goal

abbrev pub invariant-loop-i : goal.invariant-loop-i
invariant-loop-i g l = record {
  none : tally l.sink (take l.i ((g.G.SignalGraph.meaning l.graph).followers l.node)) ≡ 0;
  steps : l.steps ≡ l.fn.steps + l.i;
}
