use Rattle.std.proofs.Common.{◌≡◌, ℕ, ◌+◌, ◌<◌, ◌==◌, List, [], length, get_or, take, arith, sym, ◌∙◌, refl, subst}
use Rattle.pd_order.specs.declared.spots.Spot.{Spot}
use Rattle.pd_order.specs.Graph.{Graph, tally}
use Rattle.pd_order.specs.Spots.{nodes_of, mark_in}
use Rattle.pd_order.specs.Work.{IsAtWork}
use Rattle.pd_order.proofs.Basics.{tally_at, by_test, same_node, other_node}
use Rattle.pd_order.proofs.SpotLemmas.{length-nodes, node_at}
use Rattle.pd_order.proofs.SettleLemmas.{one_more}
use Rattle.pd_order.proofs.WorkLemmas.{room_in_heap, room_in_spare}
use Rattle.pd_order.proofs.rework.meet_all.Goals as goal

pub meet-requires-clause-there : goal.meet-requires-clause-there
meet-requires-clause-there g c =
    let l : c.loop-i.i < length c.loop-i.spots = omega arith in
    subst (λ (x : ℕ). 0 < tally x (nodes_of c.loop-i.spots)) (node_at c.loop-i.spots c.loop-i.i (record { node = 0; place = 0; mark = 0 }) l)
    (tally_at (nodes_of c.loop-i.spots) c.loop-i.i (rw (length-nodes c.loop-i.spots) l))

pub meet-requires-clause-heap_room : goal.meet-requires-clause-heap_room
meet-requires-clause-heap_room g c = λ z.
    let y : ℕ = (get_or c.loop-i.spots c.loop-i.i (record { node = 0; place = 0; mark = 0 })).node in
    let t : 0 < tally y (nodes_of c.args.spots.now) = subst (λ (ns : List ℕ). 0 < tally y ns) c.loop-i.invariant.nodes (meet-requires-clause-there g c) in
    let r : length c.loop-i.heap.items < length (nodes_of c.args.spots.now) = room_in_heap _ _ _ _ _ _ _ _ y c.loop-i.invariant.work (λ m. absurd (omega arith)) t in
    let n : length (nodes_of c.args.spots.now) ≡ length c.args.spots.now = length-nodes c.args.spots.now in
    let k = c.loop-i.heap.ok in let e = c.loop-i.invariant.heap_capacity in let q = c.requires.heap_room in omega arith

pub meet-requires-clause-spare_room : goal.meet-requires-clause-spare_room
meet-requires-clause-spare_room g c = λ z.
    let y : ℕ = (get_or c.loop-i.spots c.loop-i.i (record { node = 0; place = 0; mark = 0 })).node in
    let t : 0 < tally y (nodes_of c.args.spots.now) = subst (λ (ns : List ℕ). 0 < tally y ns) c.loop-i.invariant.nodes (meet-requires-clause-there g c) in
    let r : length c.loop-i.spare.items < length (nodes_of c.args.spots.now) = room_in_spare _ _ _ _ _ _ _ _ y c.loop-i.invariant.work z t in
    let n : length (nodes_of c.args.spots.now) ≡ length c.args.spots.now = length-nodes c.args.spots.now in
    let k = c.loop-i.spare.ok in let e = c.loop-i.invariant.spare_capacity in let q = c.requires.spare_room in omega arith

known_on : (mk mk1 : ℕ → ℕ) → ((x : ℕ) → 0 < mk x → mk1 x ≡ mk x) → (x : ℕ) → 0 < mk x → 0 < mk1 x
known_on mk mk1 h x k = let e : mk1 x ≡ mk x = h x k in omega arith

pub loop-i-preserved : goal.loop-i-preserved
loop-i-preserved g c =
    let G : Graph = g.G.SignalGraph.meaning c.args.graph.now in
    let d : Spot = record { node = 0; place = 0; mark = 0 } in
    let y : ℕ = (get_or c.loop-i.spots c.loop-i.i d).node in
    let l : c.loop-i.i < length c.loop-i.spots = omega arith in
    let nodes : List ℕ = nodes_of c.args.spots.now in
    let en : nodes_of c.loop-i.spots ≡ nodes = c.loop-i.invariant.nodes in
    let ey : get_or nodes c.loop-i.i 0 ≡ y = subst (λ (ns : List ℕ). get_or ns c.loop-i.i 0 ≡ y) en (node_at c.loop-i.spots c.loop-i.i d l) in
    let ln : c.loop-i.i < length nodes = subst (λ (ns : List ℕ). c.loop-i.i < length ns) en (rw (length-nodes c.loop-i.spots) l) in
    record {
      by_node = c.meet.ensures.by_node;
      nodes = c.meet.ensures.nodes ∙ c.loop-i.invariant.nodes;
      places = λ x. c.meet.ensures.places x ∙ c.loop-i.invariant.places x;
      known = λ x t. by_test (y == x)
          (λ q. subst (λ (v : ℕ). 0 < mark_in c.meet.new.spots v) (same_node y x q) c.meet.ensures.known)
          (λ q. known_on (mark_in c.loop-i.spots) (mark_in c.meet.new.spots) c.meet.ensures.others x (c.loop-i.invariant.known x
          (let m : tally x (take (c.loop-i.i + 1) nodes) ≡ tally x (take c.loop-i.i nodes) = (one_more nodes c.loop-i.i x ln).0 (λ e. other_node y x q (sym ey ∙ e)) in omega arith)));
      work = subst (λ (ns : List ℕ). IsAtWork G ns [] [] [] (mark_in c.meet.new.spots) c.meet.new.heap.items c.meet.new.spare.items) (c.meet.ensures.nodes ∙ en)
          (c.meet.ensures.work [] [] (subst (λ (ns : List ℕ). IsAtWork G ns [] [] [] (mark_in c.loop-i.spots) c.loop-i.heap.items c.loop-i.spare.items) (sym en) c.loop-i.invariant.work) (λ _. refl));
      heap_capacity = c.meet.ensures.heap_capacity ∙ c.loop-i.invariant.heap_capacity;
      spare_capacity = c.meet.ensures.spare_capacity ∙ c.loop-i.invariant.spare_capacity;
      looks = (let a = c.meet.ensures.steps in let b = c.loop-i.invariant.looks in omega arith);
    }
