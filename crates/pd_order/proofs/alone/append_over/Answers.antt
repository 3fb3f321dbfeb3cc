use Rattle.std.proofs.Common.{◌≡◌, ℕ, ◌<◌, ◌≤◌, List, ◌∷◌, length, arith, sym, ◌∙◌, subst}
use Rattle.pd_order.specs.declared.spots.Spot.{Spot}
use Rattle.pd_order.specs.Graph.{Graph, IsOrder}
use Rattle.pd_order.specs.Spots.{nodes_of, place_in, put, nowhere}
use Rattle.pd_order.specs.Listing.{IsListed}
use Rattle.pd_order.proofs.SpotLemmas.{length-nodes}
use Rattle.pd_order.proofs.OrderLemmas.{chain_once}
use Rattle.pd_order.proofs.MendLemmas.{chain_short}
use Rattle.pd_order.proofs.ShiftLemmas.{appended_listed, order_appended}
use Rattle.pd_order.proofs.alone.append_over.Goals as goal

pub push_reserved-requires : goal.push_reserved-requires
push_reserved-requires g c =
    let G : Graph = g.G.SignalGraph.meaning c.args.graph.now in
    let C : List ℕ = c.args.chain.now.items in
    let ss : List Spot = c.args.spots.now.items in
    let short : length C ≤ length (nodes_of ss) = chain_short G (nodes_of ss) C c.requires.order.listed in
    let ln : length (nodes_of ss) ≡ length ss = length-nodes ss in
    let r = c.requires.chain_room in
    let ok = c.args.chain.now.ok in omega arith

pub overflow_cast-last : goal.overflow_cast-last
overflow_cast-last g c =
    let G : Graph = g.G.SignalGraph.meaning c.args.graph.now in
    let C : List ℕ = c.args.chain.now.items in
    let ss : List Spot = c.args.spots.now.items in
    let short : length C ≤ length (nodes_of ss) = chain_short G (nodes_of ss) C c.requires.order.listed in
    let ln : length (nodes_of ss) ≡ length ss = length-nodes ss in
    let few = c.requires.few in
    let at = c.len-last.ensures in
    let ok = c.args.chain.now.ok in omega arith

pub returns-clause-order : goal.returns-clause-order
returns-clause-order g c =
    let G : Graph = g.G.SignalGraph.meaning c.args.graph.now in
    let C : List ℕ = c.args.chain.now.items in
    let ns : List ℕ = nodes_of c.args.spots.now.items in
    subst (λ (l : List ℕ). IsOrder G (c.args.node ∷ ns) l c.args.stuck.now) (sym c.push_reserved.ensures.items)
    (order_appended G c.args.node ns C c.args.stuck.now c.requires.lawful c.requires.alone c.requires.fresh c.requires.order c.requires.last)

pub returns-clause-listed : goal.returns-clause-listed
returns-clause-listed g c =
    let G : Graph = g.G.SignalGraph.meaning c.args.graph.now in
    let C : List ℕ = c.args.chain.now.items in
    let ss : List Spot = c.args.spots.now.items in
    let us : List Spot = c.add_spot.new.spots.items in
    let few : length us < nowhere = (let a = c.add_spot.ensures.len in let b = c.requires.few in let ok = c.args.spots.now.ok in let ok2 = c.add_spot.new.spots.ok in omega arith) in
    let at : c.len-last.result ≡ length C = (let ok = c.args.chain.now.ok in c.len-last.ensures ∙ ok.0) in
    subst (λ (l : List ℕ). IsListed l c.args.stuck.now us) (sym c.push_reserved.ensures.items)
    (appended_listed C c.args.stuck.now ss us c.args.node c.requires.listed (chain_once G (nodes_of ss) C c.requires.order.listed) c.add_spot.ensures.by_node c.add_spot.ensures.nodes
    (λ x. c.add_spot.ensures.mark x ∙ c.requires.listed.unmarked x) few (λ x. subst (λ (k : ℕ). place_in us x ≡ put (place_in ss) c.args.node k x) at (c.add_spot.ensures.place x)))
