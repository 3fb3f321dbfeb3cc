use Rattle.std.proofs.Common.{◌≡◌, ℕ, ◌-◌, ◌<◌, List, get_or, take, sym, subst, arith}
use Rattle.pd_order.specs.Graph.{Graph, tally, missing}
use Rattle.pd_order.specs.Spots.{place_in}
use Rattle.pd_order.proofs.CutLemmas.{fed_at}
use Rattle.pd_order.proofs.feeders.fed_by_followers.Goals as goal

pub returns-then-feeds-clause-some : goal.returns-then-feeds-clause-some
returns-then-feeds-clause-some g c =
    let G : Graph = g.G.SignalGraph.meaning c.args.graph.now in
    let v : ℕ = c.args.node in
    let C : List ℕ = c.args.chain.now in
    let k : ℕ = c.loop-after.after in
    let e : c.place-at.result ≡ place_in c.args.spots.now v = c.place-at.ensures in
    let fed : missing (take c.place-at.result C) (G.feeders v) ≡ 0 = subst (λ (p : ℕ). missing (take p C) (G.feeders v) ≡ 0) (sym e) (c.requires.fed (omega arith)) in
    let feeds : 0 < tally v (G.followers (get_or C (k - 1) 0)) = c.feeds.ensures.feeds.0 c.if-feeds.true in
    let joined : tally (get_or C (k - 1) 0) (G.feeders v) ≡ tally v (G.followers (get_or C (k - 1) 0)) = c.requires.lawful.joined v (get_or C (k - 1) 0) in
    fed_at G C c.place-at.result v k (k - 1) c.requires.once (omega arith) c.loop-after.invariant.within fed c.loop-after.invariant.none (omega arith) (omega arith)
