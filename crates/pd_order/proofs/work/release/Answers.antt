use Rattle.std.proofs.Common.{◌≡◌, ℕ, List, [], ◌∷◌, ◌++◌, take, arith, subst}
use Rattle.std.proofs.lemmas.List.{take_all}
use Rattle.pd_order.specs.Graph.{Graph, IsLawful}
use Rattle.pd_order.specs.Spots.{nodes_of, mark_in}
use Rattle.pd_order.specs.Work.{IsAtWork}
use Rattle.pd_order.proofs.WorkLemmas.{released}
use Rattle.pd_order.proofs.work.release.Goals as goal

pub returns-clause-work : goal.returns-clause-work
returns-clause-work g c =
    let G : Graph = g.G.SignalGraph.meaning c.args.graph.now in
    let law : IsLawful G (nodes_of c.loop-i.spots) = rw c.loop-i.invariant.nodes c.requires.lawful in
    let all : take c.loop-i.i (G.followers c.args.node) ≡ G.followers c.args.node = take_all c.loop-i.i (G.followers c.args.node) (let e = c.loop-i.invariant.end in omega arith) in
    released G (nodes_of c.loop-i.spots) c.args.listed.now (mark_in c.loop-i.spots) c.loop-i.heap.items c.loop-i.spare.items c.args.node law c.requires.going.unlisted
    (subst (λ (told : List ℕ). IsAtWork G (nodes_of c.loop-i.spots) c.args.listed.now (c.args.listed.now ++ c.args.node ∷ []) told (mark_in c.loop-i.spots) c.loop-i.heap.items c.loop-i.spare.items) all c.loop-i.invariant.work)
