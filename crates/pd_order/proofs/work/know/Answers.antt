use Rattle.std.proofs.Common.{◌≡◌, ℕ, ◌+◌, ◌<◌, ◌≤◌, ◌^◌, List, length, arith}
use Rattle.pd_order.specs.Graph.{missing}
use Rattle.pd_order.proofs.Basics.{missing-le_length}
use Rattle.pd_order.proofs.work.know.Goals as goal

pub know_held-requires-clause-few : goal.know_held-requires-clause-few
know_held-requires-clause-few g c =
    let fs : List ℕ = (g.G.SignalGraph.meaning c.args.graph.now).feeders c.args.node in
    let n : missing c.args.listed.now fs ≤ length fs = missing-le_length c.args.listed.now fs in
    let f : length fs + 1 < 2 ^ 32 = c.requires.lawful.few c.args.node in
    let e : c.count_missing-held.result ≡ missing c.args.listed.now fs = c.count_missing-held.ensures.count in
    omega arith
