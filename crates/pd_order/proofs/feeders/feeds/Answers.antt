use Rattle.std.proofs.Common.{◌≡◌, ℕ, ◌+◌, ◌<◌, ◌==◌, false, cond, List, length, take, refl, subst, arith}
use Rattle.pd_order.specs.Graph.{tally}
use Rattle.pd_order.proofs.Basics.{other_test, tally_at, tally_more}
use Rattle.pd_order.proofs.feeders.feeds.Goals as goal

pub returns-then-follower-sink-clause-feeds : goal.returns-then-follower-sink-clause-feeds
returns-then-follower-sink-clause-feeds g c =
    let fs : List ℕ = (g.G.SignalGraph.meaning c.args.graph.now).followers c.args.node in
    let l : c.loop-i.i < length fs = rw (← c.requires) c.loop-i-test.true in
    let h : 0 < tally c.follower.result fs = rw c.follower.ensures.item (tally_at fs c.loop-i.i l) in
    (λ _. subst (λ (v : ℕ). 0 < tally v fs) c.if-follower-sink.true h, λ _. refl)

pub loop-i-preserved : goal.loop-i-preserved
loop-i-preserved g c =
    let fs : List ℕ = (g.G.SignalGraph.meaning c.args.graph.now).followers c.args.node in
    let l : c.loop-i.i < length fs = rw (← c.requires) c.loop-i-test.true in
    let t : (c.follower.result == c.args.sink) ≡ false = other_test c.follower.result c.args.sink c.if-follower-sink.false in
    let m : tally c.args.sink (take c.loop-i.i fs) + cond (c.follower.result == c.args.sink) 1 0 ≡ tally c.args.sink (take (c.loop-i.i + 1) fs) = tally_more c.args.sink fs c.loop-i.i c.follower.result l c.follower.ensures.item in
    let m' : tally c.args.sink (take c.loop-i.i fs) + 0 ≡ tally c.args.sink (take (c.loop-i.i + 1) fs) = rw t at m in
    let n : tally c.args.sink (take c.loop-i.i fs) ≡ 0 = c.loop-i.invariant.none in
    record { none = omega arith; steps = omega arith }
