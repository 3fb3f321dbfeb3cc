use Rattle.std.proofs.Common.{◌≡◌, ℕ, ◌<◌, ◌==◌, inl, inr, List, [], length, get_or, take, arith, sym, ◌∙◌, subst}
use Rattle.std.specs.Prelude.{Bool, true, false, IsTrue}
use Rattle.pd_order.specs.Graph.{Graph, tally}
use Rattle.pd_order.specs.Spots.{nodes_of, place_in, mark_in}
use Rattle.pd_order.specs.Work.{IsAtWork}
use Rattle.pd_order.proofs.Basics.{tally_at, zero_or, by_test, same_node, other_node}
use Rattle.pd_order.proofs.SpotLemmas.{length-nodes}
use Rattle.pd_order.proofs.WorkLemmas.{room_in_heap, room_in_spare, next_least}
use Rattle.pd_order.proofs.HeapLemmas.{heap_least}
use Rattle.pd_order.proofs.turns.pass.Goals as goal

pub meet-requires-clause-there : goal.meet-requires-clause-there
meet-requires-clause-there g c = rw c.loop-at.invariant.nodes
    (c.requires.nodes (get_or c.args.chain.now c.loop-at.at 0) (tally_at c.args.chain.now c.loop-at.at ((c.requires.ahead c.loop-at.at c.loop-at.invariant.range c.loop-at-test.true).0)))

pub meet-requires-clause-heap_room : goal.meet-requires-clause-heap_room
meet-requires-clause-heap_room g c = λ z.
    let r : length c.loop-at.heap.items < length (nodes_of c.loop-at.spots) =
    room_in_heap _ _ _ _ _ _ _ _ (get_or c.args.chain.now c.loop-at.at 0) c.loop-at.invariant.work (λ m. absurd (omega arith)) (meet-requires-clause-there g c) in
    let n : length (nodes_of c.loop-at.spots) ≡ length c.args.spots.now = rw c.loop-at.invariant.nodes (length-nodes c.args.spots.now) in
    let k = c.loop-at.heap.ok in let e = c.loop-at.invariant.heap_capacity in let q = c.requires.heap_room in omega arith

pub meet-requires-clause-spare_room : goal.meet-requires-clause-spare_room
meet-requires-clause-spare_room g c = λ z.
    let r : length c.loop-at.spare.items < length (nodes_of c.loop-at.spots) =
    room_in_spare _ _ _ _ _ _ _ _ (get_or c.args.chain.now c.loop-at.at 0) c.loop-at.invariant.work z (meet-requires-clause-there g c) in
    let n : length (nodes_of c.loop-at.spots) ≡ length c.args.spots.now = rw c.loop-at.invariant.nodes (length-nodes c.args.spots.now) in
    let k = c.loop-at.spare.ok in let e = c.loop-at.invariant.spare_capacity in let q = c.requires.spare_room in omega arith

known_on : (mk mk1 : ℕ → ℕ) → ((x : ℕ) → 0 < mk x → mk1 x ≡ mk x) → (x : ℕ) → 0 < mk x → 0 < mk1 x
known_on mk mk1 h x k = let e : mk1 x ≡ mk x = h x k in omega arith

clash : (b : Bool) → IsTrue b → b ≡ false → ⊥
clash true t e = cc
clash false t e = cc

pub loop-at-preserved : goal.loop-at-preserved
loop-at-preserved g c =
    let G : Graph = g.G.SignalGraph.meaning c.args.graph.now in
    let x : ℕ = get_or c.args.chain.now c.loop-at.at 0 in
    let T : List ℕ = take c.args.count c.args.chain.now in
    let on : (y : ℕ) → 0 < mark_in c.loop-at.spots y → 0 < mark_in c.meet.new.spots y = known_on (mark_in c.loop-at.spots) (mark_in c.meet.new.spots) c.meet.ensures.others in
    let ah : mark_in c.loop-at.spots x ≡ 0 → (tally x T ≡ 0) × (place_in c.args.spots.now x ≡ c.loop-at.at) = λ z. (c.requires.ahead c.loop-at.at c.loop-at.invariant.range c.loop-at-test.true).1
    (zero_or (mark_in c.args.spots.now x) (λ l. let k : 0 < mark_in c.loop-at.spots x = c.loop-at.invariant.known x l in absurd (omega arith))) in
    let w1 : IsAtWork G (nodes_of c.meet.new.spots) T T [] (mark_in c.meet.new.spots) c.meet.new.heap.items c.meet.new.spare.items =
    subst (λ (L : List ℕ). IsAtWork G (nodes_of c.meet.new.spots) L T [] (mark_in c.meet.new.spots) c.meet.new.heap.items c.meet.new.spare.items) c.front.ensures
    (c.meet.ensures.work T [] (rw c.front.ensures c.loop-at.invariant.work)
    (λ z. (ah z).0)) in
    record {
      by_node = c.meet.ensures.by_node;
      nodes = c.meet.ensures.nodes ∙ c.loop-at.invariant.nodes;
      places = λ y. c.meet.ensures.places y ∙ c.loop-at.invariant.places y;
      range = (let r = c.loop-at.invariant.range in omega arith);
      upto = (let t = c.loop-at-test.true in omega arith);
      known = λ y h. on y (c.loop-at.invariant.known y h);
      are_passed = λ i a b. by_test (i == c.loop-at.at)
          (λ t. let s : i ≡ c.loop-at.at = same_node i c.loop-at.at t in rw s c.meet.ensures.known)
          (λ t. let n : i ≡ c.loop-at.at → ⊥ = other_node i c.loop-at.at t in on (get_or c.args.chain.now i 0) (c.loop-at.invariant.are_passed i a (omega arith)));
      work = w1;
      only = λ y h. elim (c.meet.ensures.only y h) [
        | inl e ↦ inr (c.loop-at.at, c.loop-at.invariant.range, omega arith, sym e)
        | inr k ↦ elim (c.loop-at.invariant.only y k) [ inl o ↦ inl o | inr q ↦ inr (q.0, q.1, (let w : q.0 < c.loop-at.at = q.2 in omega arith), q.3) ]
      ];
      advanced = inr (next_least G (nodes_of c.args.spots.now) c.loop-at.heap.items c.meet.new.heap.items (place_in c.meet.new.spots) (mark_in c.loop-at.spots) x c.loop-at.at c.requires.lawful
          (λ y h. let fr : (tally y T ≡ 0) × (mark_in c.meet.new.spots y ≡ 1) = w1.free y h in let m : mark_in c.meet.new.spots y ≡ 1 = fr.1 in subst (λ (ns : List ℕ). 0 < tally y ns) (c.meet.ensures.nodes ∙ c.loop-at.invariant.nodes) (w1.inside y (omega arith)))
          (λ y h. heap_least G.rank c.loop-at.heap.items y c.loop-at.invariant.work.is_heap h) (λ y h. heap_least G.rank c.meet.new.heap.items y w1.is_heap h)
          c.meet.ensures.heap_only c.meet.ensures.heap_kept (λ z. c.meet.ensures.places x ∙ c.loop-at.invariant.places x ∙ (ah z).1)
          (λ q. clash c.is_found.result (c.is_found.ensures.1 (rw (c.deref.ensures.value, ← c.meet.ensures.places (get_or c.loop-at.heap.items 0 0)) q)) c.if-is_found.false));
      heap_capacity = c.meet.ensures.heap_capacity ∙ c.loop-at.invariant.heap_capacity;
      spare_capacity = c.meet.ensures.spare_capacity ∙ c.loop-at.invariant.spare_capacity;
      steps = (let a = c.meet.ensures.steps in let b = c.loop-at.invariant.steps in omega arith);
    }
