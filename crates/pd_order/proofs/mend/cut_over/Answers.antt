use Rattle.std.proofs.Common.{◌≡◌, ℕ, ◌+◌, ◌<◌, ◌≤◌, ◌⊎◌, List, length, get_or, take, arith, subst}
use Rattle.pd_order.specs.Graph.{Graph, tally, missing, add_wire}
use Rattle.pd_order.specs.Spots.{nodes_of, place_in, nowhere}
use Rattle.pd_order.specs.Work.{IsStart, IsHigherBetween}
use Rattle.pd_order.proofs.SpotLemmas.{length-nodes}
use Rattle.pd_order.proofs.MendLemmas.{chain_short, listed_at}
use Rattle.pd_order.proofs.CutLemmas.{cut_same, cut_stuck, fed_there, start_is, not_before, held_start}
use Rattle.pd_order.proofs.LookLemmas.{cut_total}
use Rattle.pd_order.proofs.mend.cut_over.Goals as goal

pub fed_after-requires-clause-few : goal.fed_after-requires-clause-few
fed_after-requires-clause-few g c =
    let G : Graph = g.G.SignalGraph.meaning c.args.graph.now in
    let v : ℕ = c.args.sink in
    let g0 : Graph = add_wire G c.args.source v in
    let nodes : List ℕ = nodes_of c.args.spots.now in
    let C : List ℕ = c.args.chain.now.items in
    let short : length C ≤ length nodes = chain_short g0 nodes C c.requires.order.listed in
    let ln : length nodes ≡ length c.args.spots.now = length-nodes c.args.spots.now in
    let few : length c.args.spots.now < nowhere = c.requires.listed.few in
    rw c.deref-2.ensures.value (omega arith)

pub fed_after-requires-clause-fed : goal.fed_after-requires-clause-fed
fed_after-requires-clause-fed g c =
    let G : Graph = g.G.SignalGraph.meaning c.args.graph.now in
    let v : ℕ = c.args.sink in
    let nodes : List ℕ = nodes_of c.args.spots.now in
    let C : List ℕ = c.args.chain.now.items in
    rw c.deref-2.ensures.value (fed_there G c.args.source v C c.args.stuck.now.items c.args.spots.now c.requires.listed c.requires.order c.requires.there)

pub cut_from-requires-clause-start : goal.cut_from-requires-clause-start
cut_from-requires-clause-start g c =
    let G : Graph = g.G.SignalGraph.meaning c.args.graph.now in
    let v : ℕ = c.args.sink in
    let g0 : Graph = add_wire G c.args.source v in
    let nodes : List ℕ = nodes_of c.args.spots.now in
    let C : List ℕ = c.args.chain.now.items in
    let short : length C ≤ length nodes = chain_short g0 nodes C c.requires.order.listed in
    let ln : length nodes ≡ length c.args.spots.now = length-nodes c.args.spots.now in
    let few : length c.args.spots.now < nowhere = c.requires.listed.few in
    let d : c.deref-2.result.now ≡ C = c.deref-2.ensures.value in
    let a : (c.in-Some.after ≤ length C) × (missing (take c.in-Some.after C) (G.feeders v) ≡ 0) × ((j : ℕ) → j < c.in-Some.after → 0 < missing (take j C) (G.feeders v)) =
    subst (λ (l : List ℕ). (c.in-Some.after ≤ length l) × (missing (take c.in-Some.after l) (G.feeders v) ≡ 0) × ((j : ℕ) → j < c.in-Some.after → 0 < missing (take j l) (G.feeders v))) d c.in-Some.ensures.some in
    let d2 : c.deref-in-Some.result.now ≡ C = c.deref-in-Some.ensures.value in
    start_is G C v c.in-Some.after c.first_behind-from.result a
    (λ k h. not_before G c.args.source v nodes C k c.requires.order.listed (let q : c.in-Some.after ≤ length C = a.0 in omega arith) (a.2 k h))
    c.first_behind-from.ensures.low
    (subst (λ (l : List ℕ). c.first_behind-from.result ≤ length l) d2 c.first_behind-from.ensures.high)
    (subst (λ (l : List ℕ). (k : ℕ) → c.in-Some.after ≤ k → k < c.first_behind-from.result → (get_or l k 0 ≡ v → ⊥) × (G.rank (get_or l k 0) < G.rank v)) d2 c.first_behind-from.ensures.before)
    (subst (λ (l : List ℕ). c.first_behind-from.result < length l → (get_or l c.first_behind-from.result 0 ≡ v) ⊎ (G.rank v ≤ G.rank (get_or l c.first_behind-from.result 0))) d2 c.first_behind-from.ensures.behind)

pub returns-in-None-clause-order : goal.returns-in-None-clause-order
returns-in-None-clause-order g c =
    let G : Graph = g.G.SignalGraph.meaning c.args.graph.now in
    let v : ℕ = c.args.sink in
    let g0 : Graph = add_wire G c.args.source v in
    let nodes : List ℕ = nodes_of c.args.spots.now in
    let C : List ℕ = c.args.chain.now.items in
    let short : length C ≤ length nodes = chain_short g0 nodes C c.requires.order.listed in
    let ln : length nodes ≡ length c.args.spots.now = length-nodes c.args.spots.now in
    let few : length c.args.spots.now < nowhere = c.requires.listed.few in
    cut_stuck G c.args.source v nodes C c.args.stuck.now.items c.requires.order
    (subst (λ (l : List ℕ). 0 < missing l (G.feeders v)) c.deref-2.ensures.value c.in-None.ensures.none)

pub returns-then-stands_at-clause-order : goal.returns-then-stands_at-clause-order
returns-then-stands_at-clause-order g c =
    let G : Graph = g.G.SignalGraph.meaning c.args.graph.now in
    let v : ℕ = c.args.sink in
    let g0 : Graph = add_wire G c.args.source v in
    let nodes : List ℕ = nodes_of c.args.spots.now in
    let C : List ℕ = c.args.chain.now.items in
    let short : length C ≤ length nodes = chain_short g0 nodes C c.requires.order.listed in
    let ln : length nodes ≡ length c.args.spots.now = length-nodes c.args.spots.now in
    let few : length c.args.spots.now < nowhere = c.requires.listed.few in
    let d : c.deref-2.result.now ≡ C = c.deref-2.ensures.value in
    let a : (c.in-Some.after ≤ length C) × (missing (take c.in-Some.after C) (G.feeders v) ≡ 0) × ((j : ℕ) → j < c.in-Some.after → 0 < missing (take j C) (G.feeders v)) =
    subst (λ (l : List ℕ). (c.in-Some.after ≤ length l) × (missing (take c.in-Some.after l) (G.feeders v) ≡ 0) × ((j : ℕ) → j < c.in-Some.after → 0 < missing (take j l) (G.feeders v))) d c.in-Some.ensures.some in
    let d2 : c.deref-in-Some.result.now ≡ C = c.deref-in-Some.ensures.value in
    let start : IsStart G C v c.first_behind-from.result = start_is G C v c.in-Some.after c.first_behind-from.result a
    (λ k h. not_before G c.args.source v nodes C k c.requires.order.listed (let q : c.in-Some.after ≤ length C = a.0 in omega arith) (a.2 k h))
    c.first_behind-from.ensures.low
    (subst (λ (l : List ℕ). c.first_behind-from.result ≤ length l) d2 c.first_behind-from.ensures.high)
    (subst (λ (l : List ℕ). (k : ℕ) → c.in-Some.after ≤ k → k < c.first_behind-from.result → (get_or l k 0 ≡ v → ⊥) × (G.rank (get_or l k 0) < G.rank v)) d2 c.first_behind-from.ensures.before)
    (subst (λ (l : List ℕ). c.first_behind-from.result < length l → (get_or l c.first_behind-from.result 0 ≡ v) ⊎ (G.rank v ≤ G.rank (get_or l c.first_behind-from.result 0))) d2 c.first_behind-from.ensures.behind) in
    let q : (c.first_behind-from.result < length C) × (get_or C c.first_behind-from.result 0 ≡ v) = subst (λ (l : List ℕ). (c.first_behind-from.result < length l) × (get_or l c.first_behind-from.result 0 ≡ v)) c.deref-in-Some-2.ensures.value (c.stands_at.ensures.0 c.if-stands_at.true) in
    cut_same G c.args.source v C c.args.stuck.now.items c.first_behind-from.result c.args.spots.now c.requires.listed c.requires.order start c.requires.there q.0 q.1

pub returns-else-stands_at-clause-looks : goal.returns-else-stands_at-clause-looks
returns-else-stands_at-clause-looks g c = λ a b win.
    let G : Graph = g.G.SignalGraph.meaning c.args.graph.now in
    let v : ℕ = c.args.sink in
    let g0 : Graph = add_wire G c.args.source v in
    let nodes : List ℕ = nodes_of c.args.spots.now in
    let C : List ℕ = c.args.chain.now.items in
    let short : length C ≤ length nodes = chain_short g0 nodes C c.requires.order.listed in
    let ln : length nodes ≡ length c.args.spots.now = length-nodes c.args.spots.now in
    let few : length c.args.spots.now < nowhere = c.requires.listed.few in
    cut_total G c.args.source v nodes C c.cut_from.new.chain.items a b c.args.steps.now c.fed_after.new.steps c.cut_from.new.steps c.in-Some.ensures.steps (c.cut_from.ensures.looks a b win)

pub returns-then-is_held_behind-clause-order : goal.returns-then-is_held_behind-clause-order
returns-then-is_held_behind-clause-order g c =
    let G : Graph = g.G.SignalGraph.meaning c.args.graph.now in
    let v : ℕ = c.args.sink in
    let g0 : Graph = add_wire G c.args.source v in
    let nodes : List ℕ = nodes_of c.args.spots.now in
    let C : List ℕ = c.args.chain.now.items in
    let short : length C ≤ length nodes = chain_short g0 nodes C c.requires.order.listed in
    let ln : length nodes ≡ length c.args.spots.now = length-nodes c.args.spots.now in
    let few : length c.args.spots.now < nowhere = c.requires.listed.few in
    let h : (place_in c.args.spots.now v < length C) × IsHigherBetween G C (place_in c.args.spots.now c.args.source + 1) (place_in c.args.spots.now v) v =
    subst (λ (l : List ℕ). (place_in c.args.spots.now v < length l) × IsHigherBetween G l (place_in c.args.spots.now c.args.source + 1) (place_in c.args.spots.now v) v) c.deref.ensures.value (c.is_held_behind.ensures c.if-is_held_behind.true) in
    let h0 : place_in c.args.spots.now v < length C = h.0 in
    let inn : 0 < tally v C = listed_at C c.args.stuck.now.items c.args.spots.now v c.requires.listed c.requires.there (λ e. absurd (omega arith)) in
    let e : get_or C (place_in c.args.spots.now v) 0 ≡ v = (c.requires.listed.seated.placed v inn).1 in
    cut_same G c.args.source v C c.args.stuck.now.items (place_in c.args.spots.now v) c.args.spots.now c.requires.listed c.requires.order
    (held_start G c.args.source v C c.args.stuck.now.items c.args.spots.now (place_in c.args.spots.now v) c.requires.listed c.requires.order h0 e h.1) c.requires.there h0 e
