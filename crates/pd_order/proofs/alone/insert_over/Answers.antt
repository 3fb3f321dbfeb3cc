use Rattle.std.proofs.Common.{◌≡◌, ℕ, ◌<◌, ◌≤◌, inl, inr, List, ◌∷◌, ◌++◌, length, map, get_or, take, drop, vec_len, vec_capacity, arith, sym, ◌∙◌, ap, subst}
use Rattle.pd_order.specs.declared.spots.Spot.{Spot}
use Rattle.pd_order.specs.Graph.{Graph, tally, IsOrder}
use Rattle.pd_order.specs.Spots.{nodes_of, place_in, mark_in, put, nowhere, reseated, place_raised}
use Rattle.pd_order.specs.Listing.{IsListed}
use Rattle.pd_order.proofs.Basics.{tally_at, zero_or}
use Rattle.pd_order.proofs.SpotLemmas.{length-nodes}
use Rattle.pd_order.proofs.OrderLemmas.{chain_once, chain_inside}
use Rattle.pd_order.proofs.MendLemmas.{chain_short}
use Rattle.pd_order.proofs.AloneLemmas.{order_with}
use Rattle.pd_order.proofs.ShiftLemmas.{made_way, put_same_at, nodes_reseated, mark_reseated, place_reseated, by_node_reseated, raised_nowhere}
use Rattle.pd_order.proofs.alone.insert_over.Goals as goal

pub overflow_cast-at : goal.overflow_cast-at
overflow_cast-at g c =
    let G : Graph = g.G.SignalGraph.meaning c.args.graph.now in
    let C : List ℕ = c.args.chain.now.items in
    let ss : List Spot = c.args.spots.now.items in
    let p : ℕ = c.first_behind-at.result in
    let y : ℕ = c.args.node in
    let D : List ℕ = take p C ++ y ∷ drop p C in
    let v : c.as_slice.result.now ≡ C = c.as_slice.ensures.value in
    let lp : p ≤ length C = subst (λ (l : List ℕ). p ≤ length l) v c.first_behind-at.ensures.high in
    let short : length C ≤ length (nodes_of ss) = chain_short G (nodes_of ss) C c.requires.order.listed in
    let ln : length (nodes_of ss) ≡ length ss = length-nodes ss in
    let few = c.requires.few in omega arith

pub overflow_cast-at-2 : goal.overflow_cast-at-2
overflow_cast-at-2 g c =
    let G : Graph = g.G.SignalGraph.meaning c.args.graph.now in
    let C : List ℕ = c.args.chain.now.items in
    let ss : List Spot = c.args.spots.now.items in
    let p : ℕ = c.first_behind-at.result in
    let y : ℕ = c.args.node in
    let D : List ℕ = take p C ++ y ∷ drop p C in
    let v : c.as_slice.result.now ≡ C = c.as_slice.ensures.value in
    let lp : p ≤ length C = subst (λ (l : List ℕ). p ≤ length l) v c.first_behind-at.ensures.high in
    let short : length C ≤ length (nodes_of ss) = chain_short G (nodes_of ss) C c.requires.order.listed in
    let ln : length (nodes_of ss) ≡ length ss = length-nodes ss in
    let few = c.requires.few in omega arith

pub add_spot-requires-clause-by_node : goal.add_spot-requires-clause-by_node
add_spot-requires-clause-by_node g c = rw c.make_way.ensures.items (by_node_reseated (place_raised c.first_behind-at.result) c.args.spots.now.items c.requires.listed.by_node)

pub add_spot-requires-clause-fresh : goal.add_spot-requires-clause-fresh
add_spot-requires-clause-fresh g c = rw c.make_way.ensures.items (rw (nodes_reseated (place_raised c.first_behind-at.result) c.args.spots.now.items) c.requires.fresh)

pub returns-clause-order : goal.returns-clause-order
returns-clause-order g c =
    let G : Graph = g.G.SignalGraph.meaning c.args.graph.now in
    let C : List ℕ = c.args.chain.now.items in
    let ss : List Spot = c.args.spots.now.items in
    let p : ℕ = c.first_behind-at.result in
    let y : ℕ = c.args.node in
    let D : List ℕ = take p C ++ y ∷ drop p C in
    let v : c.as_slice.result.now ≡ C = c.as_slice.ensures.value in
    let lp : p ≤ length C = subst (λ (l : List ℕ). p ≤ length l) v c.first_behind-at.ensures.high in
    let short : length C ≤ length (nodes_of ss) = chain_short G (nodes_of ss) C c.requires.order.listed in
    let ln : length (nodes_of ss) ≡ length ss = length-nodes ss in
    let room : vec_len c.args.chain.now < vec_capacity c.args.chain.now = (let ok = c.args.chain.now.ok in let r = c.requires.chain_room in omega arith) in
    let e : c.insert.new.self.items ≡ D = rw (c.insert.ensures.succeeds room) at c.insert.ensures.items in
    let before : (k : ℕ) → k < p → G.rank (get_or C k 0) ≤ G.rank y = λ k h.
    let b : G.rank (get_or c.as_slice.result.now k 0) < G.rank y = (c.first_behind-at.ensures.before k (omega arith) h).1 in
    let b' : G.rank (get_or C k 0) < G.rank y = subst (λ (l : List ℕ). G.rank (get_or l k 0) < G.rank y) v b in omega arith in
    let behind : p < length C → G.rank y ≤ G.rank (get_or C p 0) = λ h.
    elim (c.first_behind-at.ensures.behind (subst (λ (l : List ℕ). p < length l) (sym v) h)) [
      | inl q ↦ (let q' : get_or C p 0 ≡ y = subst (λ (l : List ℕ). get_or l p 0 ≡ y) v q in
          let t : 0 < tally y C = subst (λ (w : ℕ). 0 < tally w C) q' (tally_at C p h) in
          let n : 0 < tally y (nodes_of ss) = chain_inside G (nodes_of ss) C y c.requires.order.listed t in
          let f : tally y (nodes_of ss) ≡ 0 = c.requires.fresh in absurd (omega arith))
      | inr q ↦ subst (λ (l : List ℕ). G.rank y ≤ G.rank (get_or l p 0)) v q
    ] in
    subst (λ (l : List ℕ). IsOrder G (y ∷ nodes_of ss) l c.args.stuck.now) (sym e)
    (order_with G y (nodes_of ss) C c.args.stuck.now p c.requires.lawful c.requires.alone c.requires.fresh c.requires.order lp before behind)

pub returns-clause-listed : goal.returns-clause-listed
returns-clause-listed g c =
    let G : Graph = g.G.SignalGraph.meaning c.args.graph.now in
    let C : List ℕ = c.args.chain.now.items in
    let ss : List Spot = c.args.spots.now.items in
    let p : ℕ = c.first_behind-at.result in
    let y : ℕ = c.args.node in
    let D : List ℕ = take p C ++ y ∷ drop p C in
    let v : c.as_slice.result.now ≡ C = c.as_slice.ensures.value in
    let lp : p ≤ length C = subst (λ (l : List ℕ). p ≤ length l) v c.first_behind-at.ensures.high in
    let short : length C ≤ length (nodes_of ss) = chain_short G (nodes_of ss) C c.requires.order.listed in
    let ln : length (nodes_of ss) ≡ length ss = length-nodes ss in
    let room : vec_len c.args.chain.now < vec_capacity c.args.chain.now = (let ok = c.args.chain.now.ok in let r = c.requires.chain_room in omega arith) in
    let e : c.insert.new.self.items ≡ D = rw (c.insert.ensures.succeeds room) at c.insert.ensures.items in
    let f : ℕ → ℕ = place_raised p in
    let us : List Spot = c.add_spot.new.spots.items in
    let m : c.make_way.new.spots.items ≡ map (reseated f) ss = c.make_way.ensures.items in
    let few : length us < nowhere = (let a = c.add_spot.ensures.len in let a2 = c.make_way.ensures.len in let b = c.requires.few in let ok = c.args.spots.now.ok in let ok2 = c.add_spot.new.spots.ok in omega arith) in
    let nodes : (x : ℕ) → tally x (nodes_of us) ≡ tally x (y ∷ nodes_of ss) = λ x. c.add_spot.ensures.nodes x ∙ ap (λ (l : List ℕ). tally x (y ∷ l)) (ap nodes_of m ∙ nodes_reseated f ss) in
    let marks : (x : ℕ) → mark_in us x ≡ 0 = λ x. c.add_spot.ensures.mark x ∙ ap (λ (l : List Spot). mark_in l x) m ∙ mark_reseated f ss x ∙ c.requires.listed.unmarked x in
    let was : (x : ℕ) → place_in c.make_way.new.spots.items x ≡ f (place_in ss x) = λ x. ap (λ (l : List Spot). place_in l x) m ∙ place_reseated f ss x (raised_nowhere p) in
    let places : (x : ℕ) → place_in us x ≡ put (λ (v : ℕ). f (place_in ss v)) y p x = λ x. c.add_spot.ensures.place x ∙ put_same_at (place_in c.make_way.new.spots.items) (λ (v : ℕ). f (place_in ss v)) y p x (was x) in
    let fresh : tally y C ≡ 0 = zero_or (tally y C) (λ h. let n : 0 < tally y (nodes_of ss) = chain_inside G (nodes_of ss) C y c.requires.order.listed h in let q : tally y (nodes_of ss) ≡ 0 = c.requires.fresh in absurd (omega arith)) in
    subst (λ (l : List ℕ). IsListed l c.args.stuck.now us) (sym e)
    (made_way C c.args.stuck.now ss us y p c.requires.listed (chain_once G (nodes_of ss) C c.requires.order.listed) lp fresh c.add_spot.ensures.by_node nodes marks few places)

pub returns-clause-nodes : goal.returns-clause-nodes
returns-clause-nodes g c = λ x.
    let f : ℕ → ℕ = place_raised c.first_behind-at.result in
    c.add_spot.ensures.nodes x ∙ ap (λ (l : List ℕ). tally x (c.args.node ∷ l)) (ap nodes_of c.make_way.ensures.items ∙ nodes_reseated f c.args.spots.now.items)

pub returns-clause-chain_capacity : goal.returns-clause-chain_capacity
returns-clause-chain_capacity g c =
    let G : Graph = g.G.SignalGraph.meaning c.args.graph.now in
    let C : List ℕ = c.args.chain.now.items in
    let ss : List Spot = c.args.spots.now.items in
    let p : ℕ = c.first_behind-at.result in
    let y : ℕ = c.args.node in
    let D : List ℕ = take p C ++ y ∷ drop p C in
    let v : c.as_slice.result.now ≡ C = c.as_slice.ensures.value in
    let lp : p ≤ length C = subst (λ (l : List ℕ). p ≤ length l) v c.first_behind-at.ensures.high in
    let short : length C ≤ length (nodes_of ss) = chain_short G (nodes_of ss) C c.requires.order.listed in
    let ln : length (nodes_of ss) ≡ length ss = length-nodes ss in
    let room : vec_len c.args.chain.now < vec_capacity c.args.chain.now = (let ok = c.args.chain.now.ok in let r = c.requires.chain_room in omega arith) in
    (c.insert.ensures.in_place room).1.0
