use Rattle.std.proofs.Common.{◌≡◌, ℕ, ◌+◌, ◌<◌, ◌⊎◌, [], ◌∷◌, ◌++◌, length, take, vec_capacity}
use Rattle.pd_order.specs.Graph.{tally, total}
use Rattle.pd_order.specs.Spots.{nodes_of, place_in, mark_in, AreByNode}
use Rattle.pd_order.specs.Work.{IsAtWork, looks_back}
use Rattle.pd_order.proofs.work.release.Given as goal

abbrev pub invariant-loop-i : goal.invariant-loop-i
invariant-loop-i g l = record {
  by_node : AreByNode l.spots;
  nodes : nodes_of l.spots ≡ nodes_of l.fn.spots;
  places : (x : ℕ) → place_in l.spots x ≡ place_in l.fn.spots x;
  known : (x : ℕ) → 0 < mark_in l.fn.spots x → 0 < mark_in l.spots x;
  work : IsAtWork (g.G.SignalGraph.meaning l.graph) (nodes_of l.spots) l.listed (l.listed ++ l.node ∷ []) (take l.i ((g.G.SignalGraph.meaning l.graph).followers l.node)) (mark_in l.spots) l.heap.items l.spare.items;
  only : (x : ℕ) → 0 < mark_in l.spots x → (0 < mark_in l.fn.spots x) ⊎ (0 < tally l.node ((g.G.SignalGraph.meaning l.graph).feeders x));
  heap_capacity : vec_capacity l.heap ≡ vec_capacity l.fn.heap;
  spare_capacity : vec_capacity l.spare ≡ vec_capacity l.fn.spare;
  steps : l.steps + total (looks_back (g.G.SignalGraph.meaning l.graph)) l.fn.spare.items ≡ l.fn.steps + 1 + l.i + total (looks_back (g.G.SignalGraph.meaning l.graph)) l.spare.items;
  end : l.i-end ≡ length ((g.G.SignalGraph.meaning l.graph).followers l.node);
}
