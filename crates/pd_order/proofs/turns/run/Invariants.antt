use Rattle.std.proofs.Common.{◌≡◌, ℕ, ◌+◌, ◌-◌, ◌<◌, ◌≤◌, ◌⊎◌, length, take, drop, vec_capacity}
use Rattle.pd_order.specs.Graph.{tally, total}
use Rattle.pd_order.specs.Spots.{nodes_of, place_in, mark_in, AreByNode}
use Rattle.pd_order.specs.Work.{IsRunning, IsTraced, looks_back, looks_on}
use Rattle.pd_order.proofs.turns.run.Given as goal

abbrev pub invariant-turns : goal.invariant-turns
invariant-turns g l = record {
  by_node : AreByNode l.spots;
  nodes : nodes_of l.spots ≡ nodes_of l.fn.spots;
  running : IsRunning (g.G.SignalGraph.meaning l.graph) (nodes_of l.fn.spots) l.fn.chain.items (take l.listed l.chain.items) l.from l.passed (place_in l.fn.spots) (place_in l.spots) (mark_in l.spots) l.heap.items l.spare.items;
  from_listed : l.from ≤ l.listed;
  within : l.listed ≤ length l.chain.items;
  rest : drop l.listed l.chain.items ≡ drop l.listed l.fn.chain.items;
  known : (x : ℕ) → 0 < mark_in l.fn.spots x → 0 < mark_in l.spots x;
  far : (x : ℕ) → 0 < tally x (take l.listed l.chain.items) → place_in l.fn.spots x < l.far;
  traced : IsTraced (g.G.SignalGraph.meaning l.graph) l.fn.chain.items (take l.listed l.chain.items) l.from l.passed l.far (place_in l.fn.spots) (mark_in l.fn.spots) (mark_in l.spots);
  passed_far : l.passed ≤ l.far;
  listed_far : ((l.listed ≡ l.from) × (l.far ≡ l.from)) ⊎ (l.listed < l.far);
  chain_capacity : vec_capacity l.chain ≡ vec_capacity l.fn.chain;
  heap_capacity : vec_capacity l.heap ≡ vec_capacity l.fn.heap;
  spare_capacity : vec_capacity l.spare ≡ vec_capacity l.fn.spare;
  steps : l.steps + total (looks_back (g.G.SignalGraph.meaning l.graph)) l.fn.spare.items ≡ l.fn.steps + total (looks_on (g.G.SignalGraph.meaning l.graph)) (drop l.from (take l.listed l.chain.items)) + total (looks_back (g.G.SignalGraph.meaning l.graph)) l.spare.items;
}

abbrev pub decreases-turns : goal.decreases-turns
decreases-turns g l = length l.initial.spots - l.listed
