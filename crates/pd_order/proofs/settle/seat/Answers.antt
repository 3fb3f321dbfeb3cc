use Rattle.std.proofs.Common.{ℕ, ◌+◌, ◌-◌, ◌/◌, ◌<◌, ◌≤◌, get_or, arith}
use Rattle.pd_order.specs.Graph.{Graph}
use Rattle.pd_order.proofs.SeekLemmas.{seating_low, seating_high}
use Rattle.pd_order.proofs.settle.seat.Goals as goal

pub loop-low-preserved-then-rank : goal.loop-low-preserved-then-rank
loop-low-preserved-then-rank g c =
    let G : Graph = g.G.SignalGraph.meaning c.args.graph.now in
    let at : ℕ = c.loop-low.low + (c.loop-low.high - c.loop-low.low) / 2 in
    let b : G.rank (get_or c.args.stuck.now at 0) < G.rank c.args.node = (let t = c.if-rank.true in let p = c.rank.ensures in let q = c.rank-in-loop-low.ensures in omega arith) in
    seating_low G c.args.stuck.now c.args.node c.loop-low.low c.loop-low.high at c.requires c.loop-low.invariant (omega arith) (omega arith) b

pub loop-low-preserved : goal.loop-low-preserved
loop-low-preserved g c =
    let G : Graph = g.G.SignalGraph.meaning c.args.graph.now in
    let at : ℕ = c.loop-low.low + (c.loop-low.high - c.loop-low.low) / 2 in
    let b : G.rank c.args.node ≤ G.rank (get_or c.args.stuck.now at 0) = (let t = c.if-rank.false in let p = c.rank.ensures in let q = c.rank-in-loop-low.ensures in omega arith) in
    seating_high G.rank c.args.stuck.now c.args.node c.loop-low.low c.loop-low.high at c.loop-low.invariant (omega arith) (omega arith) b
