use Rattle.std.proofs.Common.{◌≡◌, ℕ, ◌+◌, ◌<◌, List, ◌++◌, length, get_or, take, drop, arith, sym, subst}
use Rattle.pd_order.specs.Graph.{tally, IsOrder, add_wire}
use Rattle.pd_order.specs.Spots.{nodes_of}
use Rattle.pd_order.specs.Wired.{wired}
use Rattle.pd_order.proofs.Basics.{tally_at}
use Rattle.pd_order.proofs.SettleLemmas.{get_or_same, taken_out_there}
use Rattle.pd_order.proofs.WiredLemmas.{wired_lawful, nodes_below, order_less}
use Rattle.pd_cases.proofs.orders.cut.Goals as goal

pub invariant_of-graph : goal.invariant_of-graph
invariant_of-graph g c = record {
  paired = (let a = c.remove-source.ensures.len in let b = c.remove-sink.ensures.len in let p = c.args.graph.paired in omega arith);
  few = (let a = c.remove-source.ensures.len in let f = c.args.graph.few in omega arith);
  sources_below = λ u h. c.args.graph.sources_below u (taken_out_there c.args.graph.sources.items c.remove-source.new.self.items c.unwrap_or-at.result u c.remove-source.ensures.by_index.2 h);
  sinks_below = λ u h. c.args.graph.sinks_below u (taken_out_there c.args.graph.sinks.items c.remove-sink.new.self.items c.unwrap_or-at.result u c.remove-sink.ensures.by_index.2 h);
}

pub mend_cut-requires-clause-lawful : goal.mend_cut-requires-clause-lawful
mend_cut-requires-clause-lawful g c =
    let a = c.remove-source.ensures.len in
    let b = c.remove-sink.ensures.len in
    let p = c.args.graph.paired in
    let f = c.args.graph.few in
    let ka = c.remove-source.new.self.ok in
    let kb = c.remove-sink.new.self.ok in
    wired_lawful c.remove-source.new.self.items c.remove-sink.new.self.items (nodes_of c.args.order.now.spots) c.args.graph.nodes (omega arith) (omega arith)
    (λ u h. c.args.graph.sources_below u (taken_out_there c.args.graph.sources.items c.remove-source.new.self.items c.unwrap_or-at.result u c.remove-source.ensures.by_index.2 h))
    (λ u h. c.args.graph.sinks_below u (taken_out_there c.args.graph.sinks.items c.remove-sink.new.self.items c.unwrap_or-at.result u c.remove-sink.ensures.by_index.2 h))
    c.requires.nodes

pub mend_cut-requires-clause-there : goal.mend_cut-requires-clause-there
mend_cut-requires-clause-there g c =
    let ts : List ℕ = c.args.graph.sinks.items in
    let i : ℕ = c.unwrap_or-at.result in
    let l : i < length ts = (let a = c.args.graph.sources.ok in let b = c.args.graph.sinks.ok in let p = c.args.graph.paired in omega arith) in
    let v : get_or ts i 0 ≡ c.remove-sink.result = get_or_same ts i c.remove-sink.result c.remove-sink.ensures.value l in
    subst (λ (x : ℕ). 0 < tally x (nodes_of c.args.order.now.spots)) v
    (nodes_below c.args.graph.nodes (nodes_of c.args.order.now.spots) (get_or ts i 0) c.requires.nodes (c.args.graph.sinks_below (get_or ts i 0) (tally_at ts i l)))

pub mend_cut-requires-clause-order : goal.mend_cut-requires-clause-order
mend_cut-requires-clause-order g c =
    let ss : List ℕ = c.args.graph.sources.items in
    let ts : List ℕ = c.args.graph.sinks.items in
    let i : ℕ = c.unwrap_or-at.result in
    let s : ℕ = c.remove-source.result in
    let v : ℕ = c.remove-sink.result in
    let ns : List ℕ = nodes_of c.args.order.now.spots in
    let pair : length ss ≡ length ts = (let a = c.args.graph.sources.ok in let b = c.args.graph.sinks.ok in let p = c.args.graph.paired in omega arith) in
    let l : i < length ss = (let a = c.args.graph.sources.ok in omega arith) in
    subst (λ (l : List ℕ). IsOrder (add_wire (wired c.remove-source.new.self.items l) s v) ns c.args.order.now.chain c.args.order.now.stuck) (sym c.remove-sink.ensures.by_index.2)
    (subst (λ (l : List ℕ). IsOrder (add_wire (wired l (take i ts ++ drop (i + 1) ts)) s v) ns c.args.order.now.chain c.args.order.now.stuck) (sym c.remove-source.ensures.by_index.2)
    (subst (λ (x : ℕ). IsOrder (add_wire (wired (take i ss ++ drop (i + 1) ss) (take i ts ++ drop (i + 1) ts)) s x) ns c.args.order.now.chain c.args.order.now.stuck) (get_or_same ts i v c.remove-sink.ensures.value (omega arith))
    (subst (λ (x : ℕ). IsOrder (add_wire (wired (take i ss ++ drop (i + 1) ss) (take i ts ++ drop (i + 1) ts)) x (get_or ts i 0)) ns c.args.order.now.chain c.args.order.now.stuck) (get_or_same ss i s c.remove-source.ensures.value l)
    (order_less ss ts ns c.args.order.now.chain c.args.order.now.stuck i l pair c.requires.order))))
