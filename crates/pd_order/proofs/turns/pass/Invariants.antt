use Rattle.std.proofs.Common.{◌≡◌, ℕ, ◌+◌, ◌-◌, ◌<◌, ◌≤◌, ◌⊎◌, [], length, take, get_or, vec_capacity}
use Rattle.pd_order.specs.Graph.{total}
use Rattle.pd_order.specs.Spots.{nodes_of, place_in, mark_in, AreByNode}
use Rattle.pd_order.specs.Work.{IsAtWork, IsPassed, looks_back}
use Rattle.pd_order.proofs.turns.pass.Given as goal

abbrev pub invariant-loop-at : goal.invariant-loop-at
invariant-loop-at g l = record {
  by_node : AreByNode l.spots;
  nodes : nodes_of l.spots ≡ nodes_of l.fn.spots;
  places : (x : ℕ) → place_in l.spots x ≡ place_in l.fn.spots x;
  range : l.passed ≤ l.at;
  upto : l.at ≤ l.end;
  known : (x : ℕ) → 0 < mark_in l.fn.spots x → 0 < mark_in l.spots x;
  are_passed : (i : ℕ) → l.passed ≤ i → i < l.at → 0 < mark_in l.spots (get_or l.chain i 0);
  work : IsAtWork (g.G.SignalGraph.meaning l.graph) (nodes_of l.spots) (take l.count l.chain) (take l.count l.chain) [] (mark_in l.spots) l.heap.items l.spare.items;
  only : (x : ℕ) → 0 < mark_in l.spots x → (0 < mark_in l.fn.spots x) ⊎ IsPassed l.chain l.passed l.at x;
  advanced : (l.at ≡ l.passed) ⊎ (0 < length l.heap.items → l.at ≤ place_in l.spots (get_or l.heap.items 0 0) + 1);
  heap_capacity : vec_capacity l.heap ≡ vec_capacity l.fn.heap;
  spare_capacity : vec_capacity l.spare ≡ vec_capacity l.fn.spare;
  steps : l.steps + total (looks_back (g.G.SignalGraph.meaning l.graph)) l.fn.spare.items ≡ l.fn.steps + total (looks_back (g.G.SignalGraph.meaning l.graph)) l.spare.items;
}

abbrev pub decreases-loop-at : goal.decreases-loop-at
decreases-loop-at g l = l.end - l.at
