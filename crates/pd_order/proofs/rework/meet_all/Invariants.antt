use Rattle.std.proofs.Common.{◌≡◌, ℕ, ◌+◌, ◌<◌, [], take, vec_capacity}
use Rattle.pd_order.specs.Graph.{tally, total}
use Rattle.pd_order.specs.Spots.{place_in, mark_in, nodes_of, AreByNode}
use Rattle.pd_order.specs.Work.{IsAtWork, looks_back}
use Rattle.pd_order.proofs.rework.meet_all.Given as goal

abbrev pub invariant-loop-i : goal.invariant-loop-i
invariant-loop-i g l = record {
  by_node : AreByNode l.spots;
  nodes : nodes_of l.spots ≡ nodes_of l.fn.spots;
  places : (x : ℕ) → place_in l.spots x ≡ place_in l.fn.spots x;
  known : (x : ℕ) → 0 < tally x (take l.i (nodes_of l.fn.spots)) → 0 < mark_in l.spots x;
  work : IsAtWork (g.G.SignalGraph.meaning l.graph) (nodes_of l.fn.spots) [] [] [] (mark_in l.spots) l.heap.items l.spare.items;
  heap_capacity : vec_capacity l.heap ≡ vec_capacity l.fn.heap;
  spare_capacity : vec_capacity l.spare ≡ vec_capacity l.fn.spare;
  looks : l.steps ≡ l.fn.steps + total (looks_back (g.G.SignalGraph.meaning l.graph)) l.spare.items;
}
