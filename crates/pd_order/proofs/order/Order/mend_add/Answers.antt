use Rattle.std.proofs.Common.{ℕ, ◌+◌, ◌*◌, ◌≤◌, List, subst}
use Rattle.pd_order.specs.declared.spots.Spot.{Spot}
use Rattle.pd_order.specs.Graph.{Graph, ends}
use Rattle.pd_order.specs.Spots.{nodes_of}
use Rattle.pd_order.specs.Listing.{Listing}
use Rattle.pd_order.specs.Window.{first_difference, differences_end, changed_places, changed_ends}
use Rattle.pd_order.proofs.WindowLemmas.{differences_window}
use Rattle.pd_order.proofs.order.Order.mend_add.Goals as goal

pub returns-clause-looks : goal.returns-clause-looks
returns-clause-looks g c =
    let G : Graph = g.G.SignalGraph.meaning c.args.graph.now in
    let C : List ℕ = c.self.inside.chain.vec.items in
    let N : List ℕ = c.add_over.new.chain.items in
    let k : c.add_over.new.steps ≤ c.args.steps.now + 4 * (changed_places C N + changed_ends G (nodes_of c.as_mut_slice.result.now) C N) + 4 * ends G c.args.sink + 8 =
    c.add_over.ensures.looks (first_difference C N) (differences_end C N) (differences_window C N) in
    let m : c.add_over.new.steps ≤ c.args.steps.now + 4 * (changed_places C N + changed_ends G (nodes_of c.self.inside.spots.vec.items) C N) + 4 * ends G c.args.sink + 8 =
    subst (λ (ss : List Spot). c.add_over.new.steps ≤ c.args.steps.now + 4 * (changed_places C N + changed_ends G (nodes_of ss) C N) + 4 * ends G c.args.sink + 8) c.as_mut_slice.ensures.value k in
    subst (λ (v : Listing). c.add_over.new.steps ≤ c.args.steps.now + 4 * (changed_places v.chain N + changed_ends G (nodes_of v.spots) v.chain N) + 4 * ends G c.args.sink + 8) c.self.view_is m
