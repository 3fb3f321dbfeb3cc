use Rattle.std.proofs.Common.{◌≡◌, ℕ, ◌<◌, List, [], ◌∷◌, ◌++◌, length, arith, sym, subst}
use Rattle.pd_order.specs.Graph.{tally, IsOrder, cut_wire}
use Rattle.pd_order.specs.Spots.{nodes_of}
use Rattle.pd_order.specs.Wired.{ends_at, wired}
use Rattle.pd_order.proofs.WiredLemmas.{wired_lawful, end_pushed, order_pushed, push_below}
use Rattle.pd_cases.proofs.orders.add.Goals as goal

pub invariant_of-graph : goal.invariant_of-graph
invariant_of-graph g c = record {
  paired = (let a = c.in_ok-push.ensures.len in let b = c.in_ok-push-2.ensures.len in let p = c.args.graph.paired in omega arith);
  few = (let a = c.in_ok-push.ensures.len in omega arith);
  sources_below = rw c.in_ok-push.ensures.items (push_below c.args.graph.sources.items c.in-Some.source c.args.graph.nodes c.args.graph.sources_below c.in-Some.ensures.source);
  sinks_below = rw c.in_ok-push-2.ensures.items (push_below c.args.graph.sinks.items c.in-Some.sink c.args.graph.nodes c.args.graph.sinks_below c.in-Some.ensures.sink);
}

pub mend_add-requires-clause-lawful : goal.mend_add-requires-clause-lawful
mend_add-requires-clause-lawful g c =
    let a = c.in_ok-push.ensures.len in
    let b = c.in_ok-push-2.ensures.len in
    let p = c.args.graph.paired in
    let ka = c.push.new.self.ok in
    let kb = c.push-2.new.self.ok in
    wired_lawful c.push.new.self.items c.push-2.new.self.items (nodes_of c.args.order.now.spots) c.args.graph.nodes (omega arith) (omega arith)
    (rw c.in_ok-push.ensures.items (push_below c.args.graph.sources.items c.in-Some.source c.args.graph.nodes c.args.graph.sources_below c.in-Some.ensures.source))
    (rw c.in_ok-push-2.ensures.items (push_below c.args.graph.sinks.items c.in-Some.sink c.args.graph.nodes c.args.graph.sinks_below c.in-Some.ensures.sink))
    c.requires.nodes

pub mend_add-requires-clause-wire : goal.mend_add-requires-clause-wire
mend_add-requires-clause-wire g c =
    let ss : List ℕ = c.args.graph.sources.items in
    let ts : List ℕ = c.args.graph.sinks.items in
    let pair : length ss ≡ length ts = (let a = c.args.graph.sources.ok in let b = c.args.graph.sinks.ok in let p = c.args.graph.paired in omega arith) in
    subst (λ (l : List ℕ). 0 < tally c.in-Some.source (ends_at l c.push.new.self.items c.in-Some.sink)) (sym c.in_ok-push-2.ensures.items)
    (subst (λ (l : List ℕ). 0 < tally c.in-Some.source (ends_at (ts ++ c.in-Some.sink ∷ []) l c.in-Some.sink)) (sym c.in_ok-push.ensures.items)
    (end_pushed ts ss c.in-Some.sink c.in-Some.source (sym pair)))

pub mend_add-requires-clause-order : goal.mend_add-requires-clause-order
mend_add-requires-clause-order g c =
    let ss : List ℕ = c.args.graph.sources.items in
    let ts : List ℕ = c.args.graph.sinks.items in
    let ns : List ℕ = nodes_of c.args.order.now.spots in
    let pair : length ss ≡ length ts = (let a = c.args.graph.sources.ok in let b = c.args.graph.sinks.ok in let p = c.args.graph.paired in omega arith) in
    subst (λ (l : List ℕ). IsOrder (cut_wire (wired c.push.new.self.items l) c.in-Some.source c.in-Some.sink) ns c.args.order.now.chain c.args.order.now.stuck) (sym c.in_ok-push-2.ensures.items)
    (subst (λ (l : List ℕ). IsOrder (cut_wire (wired l (ts ++ c.in-Some.sink ∷ [])) c.in-Some.source c.in-Some.sink) ns c.args.order.now.chain c.args.order.now.stuck) (sym c.in_ok-push.ensures.items)
    (order_pushed ss ts ns c.args.order.now.chain c.args.order.now.stuck c.in-Some.source c.in-Some.sink pair c.requires.order))
