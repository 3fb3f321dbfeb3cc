use Rattle.std.proofs.Common.{◌≡◌, ◌+◌, [], ◌∷◌, arith}
use Rattle.pd_order.specs.Graph.{total}
use Rattle.pd_order.specs.Spots.{mark_in}
use Rattle.pd_order.specs.Work.{looks_back}
use Rattle.pd_order.proofs.Basics.{total-append}
use Rattle.pd_order.proofs.WorkLemmas.{known_more}
use Rattle.pd_order.proofs.work.meet.Goals as goal

pub returns-then-mark-eq0-clause-work : goal.returns-then-mark-eq0-clause-work
returns-then-mark-eq0-clause-work g c = λ out told w still.
    let z : mark_in c.args.spots.now c.args.node ≡ 0 = omega arith in
    rw c.know.ensures.nodes (known_more _ _ _ _ _ _ _ _ _ _ _ c.args.node w z c.requires.there (still z)
    c.know.ensures.marks c.know.ensures.more c.know.ensures.spare c.know.ensures.heap)

pub returns-then-mark-eq0-clause-steps : goal.returns-then-mark-eq0-clause-steps
returns-then-mark-eq0-clause-steps g c =
    let e : total (looks_back (g.G.SignalGraph.meaning c.args.graph.now)) c.know.new.spare.items ≡ total (looks_back (g.G.SignalGraph.meaning c.args.graph.now)) c.args.spare.now.items + (looks_back (g.G.SignalGraph.meaning c.args.graph.now) c.args.node + 0) =
    rw c.know.ensures.spare (total-append _ c.args.spare.now.items (c.args.node ∷ [])) in
    let s = c.know.ensures.steps in omega arith
