use Rattle.std.proofs.Common.{◌≡◌, ℕ, ◌+◌, ◌<◌, ◌≤◌, List, length, take, ◌^◌, arith}
use Rattle.std.proofs.lemmas.List.{length-take-le}
use Rattle.pd_order.specs.Graph.{missing}
use Rattle.pd_order.proofs.Basics.{tally_at, missing_more, missing-le_length}
use Rattle.pd_order.proofs.work.count_missing.Goals as goal

pub overflow_add-count : goal.overflow_add-count
overflow_add-count g c =
    let fs : List ℕ = (g.G.SignalGraph.meaning c.args.graph.now).feeders c.args.node in
    let l : c.loop-i.i < length fs = rw (← c.loop-i.invariant.end) c.loop-i-test.true in
    let m : c.loop-i.count + c.unlisted_count-count.result ≡ missing c.args.listed.now (take (c.loop-i.i + 1) fs) =
    rw (c.loop-i.invariant.count, c.unlisted_count-count.ensures) (missing_more c.args.listed.now fs c.loop-i.i c.feeder-feeder.result l c.feeder-feeder.ensures.item) in
    let n : missing c.args.listed.now (take (c.loop-i.i + 1) fs) ≤ length (take (c.loop-i.i + 1) fs) = missing-le_length c.args.listed.now (take (c.loop-i.i + 1) fs) in
    let t : length (take (c.loop-i.i + 1) fs) ≡ c.loop-i.i + 1 = length-take-le (c.loop-i.i + 1) fs (omega arith) in
    let f : length fs + 1 < 2 ^ 32 = c.requires.lawful.few c.args.node in
    omega arith

pub loop-i-preserved : goal.loop-i-preserved
loop-i-preserved g c =
    let fs : List ℕ = (g.G.SignalGraph.meaning c.args.graph.now).feeders c.args.node in
    let l : c.loop-i.i < length fs = rw (← c.loop-i.invariant.end) c.loop-i-test.true in
    record {
      count = rw (c.loop-i.invariant.count, c.unlisted_count-count.ensures) (missing_more c.args.listed.now fs c.loop-i.i c.feeder-feeder.result l c.feeder-feeder.ensures.item);
      steps = omega arith;
      end = c.loop-i.invariant.end;
    }

pub unlisted_count-count-requires-clause-there : goal.unlisted_count-count-requires-clause-there
unlisted_count-count-requires-clause-there g c =
    let fs : List ℕ = (g.G.SignalGraph.meaning c.args.graph.now).feeders c.args.node in
    let l : c.loop-i.i < length fs = rw (← c.loop-i.invariant.end) c.loop-i-test.true in
    c.requires.lawful.sources c.args.node c.feeder-feeder.result
    (rw c.feeder-feeder.ensures.item (tally_at fs c.loop-i.i l))
