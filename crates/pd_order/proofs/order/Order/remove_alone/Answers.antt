use Rattle.std.proofs.Common.{ℕ, ◌<◌, ◌≤◌, List, subst, sym}
use Rattle.pd_order.specs.declared.spots.Spot.{Spot}
use Rattle.pd_order.specs.Graph.{Graph, tally, IsAlone, IsLawful, IsOrder}
use Rattle.pd_order.specs.Spots.{nodes_of}
use Rattle.pd_order.specs.Listing.{Listing}
use Rattle.pd_order.proofs.OrderLemmas.{chain_once}
use Rattle.pd_order.proofs.AloneLemmas.{Adds, alone_listed, order_taken_out}
use Rattle.pd_order.proofs.order.Order.remove_alone.Goals as goal

pub remove_over-requires-clause-once : goal.remove_over-requires-clause-once
remove_over-requires-clause-once c =
    let o : IsOrder c.requires.alone.0 (nodes_of c.args.self.now.spots) c.args.self.now.chain c.args.self.now.stuck = c.requires.alone.1 in
    let k : (x : ℕ) → tally x c.args.self.now.chain ≤ 1 = chain_once c.requires.alone.0 (nodes_of c.args.self.now.spots) c.args.self.now.chain o.listed in
    subst (λ (v : Listing). (x : ℕ) → tally x v.chain ≤ 1) (sym c.self.view_is) k

pub remove_over-requires-clause-there : goal.remove_over-requires-clause-there
remove_over-requires-clause-there c =
    let k : 0 < tally c.args.node c.args.self.now.chain = alone_listed c.requires.alone.0 c.args.node (nodes_of c.args.self.now.spots) c.args.self.now.chain c.args.self.now.stuck c.requires.alone.1 c.requires.alone.2 c.requires.there in
    subst (λ (v : Listing). 0 < tally c.args.node v.chain) (sym c.self.view_is) k

pub returns-clause-order : goal.returns-clause-order
returns-clause-order c =
    let C : List ℕ = c.self.inside.chain.vec.items in
    let S : List ℕ = c.self.inside.stuck.vec.items in
    let ss : List Spot = c.self.inside.spots.vec.items in
    let us : List Spot = c.remove_over.new.spots.items in
    let nodes : Adds c.args.node (nodes_of us) (nodes_of ss) = record { more = c.remove_over.ensures.nodes } in
    let k : 0 < tally c.args.node c.args.self.now.chain = alone_listed c.requires.alone.0 c.args.node (nodes_of c.args.self.now.spots) c.args.self.now.chain c.args.self.now.stuck c.requires.alone.1 c.requires.alone.2 c.requires.there in
    let h : 0 < tally c.args.node C = subst (λ (v : Listing). 0 < tally c.args.node v.chain) (sym c.self.view_is) k in
    subst (λ (v : Listing). (g : Graph) → IsLawful g (nodes_of v.spots) → IsAlone g c.args.node → IsOrder g (nodes_of v.spots) v.chain v.stuck → IsOrder g (nodes_of us) c.remove_over.new.chain.items S) c.self.view_is
    (λ g law al o. subst (λ (l : List ℕ). IsOrder g (nodes_of us) l S) (sym c.remove_over.ensures.chain) (order_taken_out g c.args.node (nodes_of us) (nodes_of ss) C S law al nodes h o))
