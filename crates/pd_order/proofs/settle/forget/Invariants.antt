use Rattle.std.proofs.Common.{◌≡◌, ℕ, ◌<◌, take}
use Rattle.pd_order.specs.Graph.{tally}
use Rattle.pd_order.specs.Spots.{place_in, mark_in, nodes_of, AreByNode}
use Rattle.pd_order.proofs.settle.forget.Given as goal

abbrev pub invariant-loop-node : goal.invariant-loop-node
invariant-loop-node l = record {
  by_node : AreByNode l.spots;
  nodes : nodes_of l.spots ≡ nodes_of l.fn.spots;
  places : (x : ℕ) → place_in l.spots x ≡ place_in l.fn.spots x;
  listed : (x : ℕ) → 0 < tally x (take l.node-index l.spare) → mark_in l.spots x ≡ 0;
  others : (x : ℕ) → tally x (take l.node-index l.spare) ≡ 0 → mark_in l.spots x ≡ mark_in l.fn.spots x;
}
