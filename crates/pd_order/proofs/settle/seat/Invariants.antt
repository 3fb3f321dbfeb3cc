use Rattle.std.proofs.Common.{◌-◌}
use Rattle.pd_order.proofs.SeekLemmas.{IsSeating}
use Rattle.pd_order.proofs.settle.seat.Given as goal

abbrev pub invariant-loop-low : goal.invariant-loop-low
invariant-loop-low g l = IsSeating (g.G.SignalGraph.meaning l.graph).rank l.stuck l.node l.low l.high

abbrev pub decreases-loop-low : goal.decreases-loop-low
decreases-loop-low g l = l.high - l.low
