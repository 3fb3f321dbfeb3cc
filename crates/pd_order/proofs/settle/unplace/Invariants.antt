use Rattle.std.proofs.Common.{◌≡◌, ℕ, ◌<◌, take}
use Rattle.pd_order.specs.Graph.{tally}
use Rattle.pd_order.specs.Spots.{place_in, mark_in, place_left, nodes_of, AreByNode}
use Rattle.pd_order.proofs.settle.unplace.Given as goal

abbrev pub invariant-loop-node : goal.invariant-loop-node
invariant-loop-node l = record {
  by_node : AreByNode l.spots;
  nodes : nodes_of l.spots ≡ nodes_of l.fn.spots;
  marks : (x : ℕ) → mark_in l.spots x ≡ mark_in l.fn.spots x;
  listed : (x : ℕ) → 0 < tally x (take l.node-index l.spare) → place_in l.spots x ≡ place_left l.fn.spots x;
  others : (x : ℕ) → tally x (take l.node-index l.spare) ≡ 0 → place_in l.spots x ≡ place_in l.fn.spots x;
}
