use Rattle.std.proofs.Common.{◌≡◌, ℕ, ◌<◌, ◌≤◌, List, ◌∷◌, ◌++◌, length, get_or, take, drop, subst}
use Rattle.pd_order.specs.Graph.{Graph}
use Rattle.pd_order.proofs.SettleLemmas.{by_rank_insert, tally-insert, strictly}
use Rattle.pd_order.proofs.settle.stick.Goals as goal

pub returns-clause-by_rank : goal.returns-clause-by_rank
returns-clause-by_rank g c =
    let G : Graph = g.G.SignalGraph.meaning c.args.graph.now in
    let old : List ℕ = c.args.stuck.now.items in
    let e : c.insert.new.self.items ≡ take c.seat-at.result old ++ c.args.node ∷ drop c.seat-at.result old = rw (c.insert.ensures.succeeds c.requires.room) at c.insert.ensures.items in
    let v : c.as_slice.result.now ≡ old = c.as_slice.ensures.value in
    rw e (by_rank_insert G c.args.node old c.seat-at.result c.requires.by_rank
    (subst (λ (l : List ℕ). c.seat-at.result ≤ length l) v c.seat-at.ensures.within)
    (subst (λ (l : List ℕ). (k : ℕ) → k < c.seat-at.result → G.rank (get_or l k 0) < G.rank c.args.node) v c.seat-at.ensures.before)
    (strictly G.rank old c.seat-at.result c.args.node c.requires.apart c.requires.fresh
    (subst (λ (l : List ℕ). c.seat-at.result < length l → G.rank c.args.node ≤ G.rank (get_or l c.seat-at.result 0)) v c.seat-at.ensures.after)))

pub returns-clause-more : goal.returns-clause-more
returns-clause-more g c = λ x.
    let old : List ℕ = c.args.stuck.now.items in
    let e : c.insert.new.self.items ≡ take c.seat-at.result old ++ c.args.node ∷ drop c.seat-at.result old = rw (c.insert.ensures.succeeds c.requires.room) at c.insert.ensures.items in
    rw e (tally-insert x c.args.node old c.seat-at.result)
