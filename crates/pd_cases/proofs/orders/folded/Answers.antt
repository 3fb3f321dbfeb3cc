use Rattle.std.proofs.Common.{◌≡◌, ℕ, ◌<◌, List, length, arith, sym, ◌∙◌, ap}
use Rattle.pd_order.specs.Graph.{tally}
use Rattle.pd_order.specs.Spots.{nodes_of}
use Rattle.pd_order.specs.Wired.{wired, numbers_below}
use Rattle.pd_order.proofs.MendLemmas.{order_nodes}
use Rattle.pd_order.proofs.WiredLemmas.{wired_lawful, length-below}
use Rattle.pd_cases.proofs.orders.folded.Goals as goal

pub fold-requires-clause-lawful : goal.fold-requires-clause-lawful
fold-requires-clause-lawful g c =
    let ss : List ℕ = c.args.graph.now.sources.items in
    let ts : List ℕ = c.args.graph.now.sinks.items in
    let n : ℕ = c.args.graph.now.nodes in
    let e : c.as_slice.result.now ≡ numbers_below n = c.as_slice.ensures.value ∙ c.in_ok-nodes.ensures in
    let pair : length ss ≡ length ts = (let a = c.args.graph.now.sources.ok in let b = c.args.graph.now.sinks.ok in let p = c.args.graph.now.paired in omega arith) in
    let few : length ss < 4294967295 = (let a = c.args.graph.now.sources.ok in let p = c.args.graph.now.few in omega arith) in
    wired_lawful ss ts c.as_slice.result.now n pair few c.args.graph.now.sources_below c.args.graph.now.sinks_below (λ x. ap (tally x) e)

pub fold-requires-clause-few : goal.fold-requires-clause-few
fold-requires-clause-few g c =
    let ss : List ℕ = c.args.graph.now.sources.items in
    let ts : List ℕ = c.args.graph.now.sinks.items in
    let n : ℕ = c.args.graph.now.nodes in
    let e : c.as_slice.result.now ≡ numbers_below n = c.as_slice.ensures.value ∙ c.in_ok-nodes.ensures in
    let l : length c.as_slice.result.now ≡ n = ap length e ∙ length-below n in omega arith

pub fold-requires-clause-room : goal.fold-requires-clause-room
fold-requires-clause-room g c =
    let ss : List ℕ = c.args.graph.now.sources.items in
    let ts : List ℕ = c.args.graph.now.sinks.items in
    let n : ℕ = c.args.graph.now.nodes in
    let e : c.as_slice.result.now ≡ numbers_below n = c.as_slice.ensures.value ∙ c.in_ok-nodes.ensures in
    let l : length c.as_slice.result.now ≡ n = ap length e ∙ length-below n in
    let r = c.in_ok-reserve.ensures.enough in omega arith

pub returns-2 : goal.returns-2
returns-2 g c =
    let ss : List ℕ = c.args.graph.now.sources.items in
    let ts : List ℕ = c.args.graph.now.sinks.items in
    let n : ℕ = c.args.graph.now.nodes in
    let e : c.as_slice.result.now ≡ numbers_below n = c.as_slice.ensures.value ∙ c.in_ok-nodes.ensures in
    record {
      order = order_nodes (wired ss ts) c.as_slice.result.now (nodes_of c.fold.new.self.spots) c.fold.new.self.chain c.fold.new.self.stuck (λ x. sym (c.fold.ensures.nodes x)) c.fold.ensures.order;
      nodes = λ x. c.fold.ensures.nodes x ∙ ap (tally x) e;
      room = (let r = c.in_ok-reserve.ensures.enough in let f = c.fold.ensures.room in omega arith);
    }
