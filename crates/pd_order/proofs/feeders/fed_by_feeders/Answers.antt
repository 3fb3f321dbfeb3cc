use Rattle.std.proofs.Common.{◌≡◌, ℕ, ◌+◌, ◌<◌, ◌≤◌, ◌==◌, ◌⊎◌, List, length, get_or, take, arith, sym, ◌∙◌}
use Rattle.pd_order.specs.Graph.{Graph, tally, missing}
use Rattle.pd_order.specs.Spots.{nodes_of, place_in, nowhere}
use Rattle.pd_order.proofs.Basics.{by_test, zero_or, same_node, other_node, tally_at}
use Rattle.pd_order.proofs.TurnLemmas.{max_cases}
use Rattle.pd_order.proofs.CutLemmas.{fed_more, unfed}
use Rattle.pd_order.proofs.feeders.fed_by_feeders.Goals as goal

pub place-at-requires-clause-there : goal.place-at-requires-clause-there
place-at-requires-clause-there g c =
    let fs : List ℕ = (g.G.SignalGraph.meaning c.args.graph.now).feeders c.args.node in
    let l : c.loop-i.i < length fs = rw (← c.loop-i.invariant.end) c.loop-i-test.true in
    c.requires.lawful.sources c.args.node c.feeder-feeder.result (rw c.feeder-feeder.ensures.item (tally_at fs c.loop-i.i l))

pub returns-then-at-clause-none : goal.returns-then-at-clause-none
returns-then-at-clause-none g c =
    let fs : List ℕ = (g.G.SignalGraph.meaning c.args.graph.now).feeders c.args.node in
    let l : c.loop-i.i < length fs = rw (← c.loop-i.invariant.end) c.loop-i-test.true in
    let e : place_in c.args.spots.now c.feeder-feeder.result ≡ nowhere = sym c.place-at.ensures ∙ c.if-at.true in
    unfed c.args.chain.now fs c.loop-i.i c.feeder-feeder.result l c.feeder-feeder.ensures.item
    (zero_or (tally c.feeder-feeder.result c.args.chain.now) (λ h. let p : place_in c.args.spots.now c.feeder-feeder.result < length c.args.chain.now = (c.requires.seated.placed c.feeder-feeder.result h).0 in let f : length c.args.chain.now < nowhere = c.requires.few in absurd (omega arith)))

pub loop-i-preserved : goal.loop-i-preserved
loop-i-preserved g c =
    let G : Graph = g.G.SignalGraph.meaning c.args.graph.now in
    let fs : List ℕ = G.feeders c.args.node in
    let u : ℕ = c.feeder-feeder.result in
    let C : List ℕ = c.args.chain.now in
    let l : c.loop-i.i < length fs = rw (← c.loop-i.invariant.end) c.loop-i-test.true in
    let there : 0 < tally u (nodes_of c.args.spots.now) = c.requires.lawful.sources c.args.node u (rw c.feeder-feeder.ensures.item (tally_at fs c.loop-i.i l)) in
    let inn : 0 < tally u C = by_test (tally u C == 0)
    (λ t. absurd (c.if-at.false (c.place-at.ensures ∙ c.requires.seated.away u there (same_node (tally u C) 0 t))))
    (λ t. let n : tally u C ≡ 0 → ⊥ = other_node (tally u C) 0 t in omega arith) in
    let q : (place_in c.args.spots.now u < length C) × (get_or C (place_in c.args.spots.now u) 0 ≡ u) = c.requires.seated.placed u inn in
    let e : c.place-at.result ≡ place_in c.args.spots.now u = c.place-at.ensures in
    let q0 : c.place-at.result < length C = rw e q.0 in
    let q1 : get_or C c.place-at.result 0 ≡ u = rw e q.1 in
    let m : (c.loop-i.after ≤ c.max-after.result) × (c.place-at.result + 1 ≤ c.max-after.result) × ((c.max-after.result ≡ c.loop-i.after) ⊎ (c.max-after.result ≡ c.place-at.result + 1)) = max_cases c.loop-i.after (c.place-at.result + 1) c.max-after.result c.max-after.ensures in
    let r : (c.max-after.result ≤ length C) × (missing (take c.max-after.result C) (take (c.loop-i.i + 1) fs) ≡ 0) × ((j : ℕ) → j < c.max-after.result → 0 < missing (take j C) (take (c.loop-i.i + 1) fs)) =
    fed_more C fs c.loop-i.after c.max-after.result c.loop-i.i u c.place-at.result c.requires.once l c.feeder-feeder.ensures.item q0 q1 c.loop-i.invariant.within m.0 m.1 m.2 c.loop-i.invariant.fed c.loop-i.invariant.earlier in
    record { within = r.0; fed = r.1; earlier = r.2; steps = omega arith; end = c.loop-i.invariant.end }
