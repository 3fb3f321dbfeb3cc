use Rattle.std.proofs.Common.{◌≡◌, ℕ, ◌+◌, take, vec_capacity}
use Rattle.std.specs.List.{filter}
use Rattle.pd_order.specs.Graph.{tally, AreByRank}
use Rattle.pd_order.specs.Spots.{is_displaced}
use Rattle.pd_order.proofs.settle.gather.Given as goal

abbrev pub invariant-loop-node : goal.invariant-loop-node
invariant-loop-node g l = record {
  by_rank : AreByRank (g.G.SignalGraph.meaning l.graph) l.stuck.items;
  more : (x : ℕ) → tally x l.stuck.items ≡ tally x l.fn.stuck.items + tally x (filter (is_displaced l.spots) (take l.node-index l.spare));
  capacity : vec_capacity l.stuck ≡ vec_capacity l.fn.stuck;
}
