use Rattle.std.proofs.Common.{◌≤◌, length, arith}
use Rattle.pd_order.proofs.Basics.{length_le}
use Rattle.pd_chain.specs.Tables.{graph_in}
use Rattle.pd_chain.proofs.WireLemmas.{drawn_lawful, drawn_order}
use Rattle.pd_chain.proofs.EndLemmas.{few_ends}
use Rattle.pd_chain.proofs.chain.order_of.Goals as goal

pub overflow_cast-signal : goal.overflow_cast-signal
overflow_cast-signal g c =
    let l : length c.args.signal.now ≤ length c.args.nodes.now = length_le c.args.signal.now c.args.nodes.now c.requires.canvas.signal_once c.requires.canvas.among in
    let f = c.requires.few_nodes in omega arith

pub fold-requires-clause-lawful : goal.fold-requires-clause-lawful
fold-requires-clause-lawful g c = drawn_lawful (graph_in c.in_ok-graph.graph) c.args.nodes.now c.args.signal.now c.args.wires.now c.in_ok-graph.ensures c.requires.canvas c.requires.few_wires

pub fold-requires-clause-few : goal.fold-requires-clause-few
fold-requires-clause-few g c =
    let l : length c.args.signal.now ≤ length c.args.nodes.now = length_le c.args.signal.now c.args.nodes.now c.requires.canvas.signal_once c.requires.canvas.among in
    let f = c.requires.few_nodes in omega arith

pub returns-clause-order : goal.returns-clause-order
returns-clause-order g c = drawn_order (graph_in c.in_ok-graph.graph) c.args.nodes.now c.args.signal.now c.fold.new.self.chain c.fold.new.self.stuck c.args.wires.now c.in_ok-graph.ensures c.requires.canvas c.fold.ensures.order

pub returns-clause-looks : goal.returns-clause-looks
returns-clause-looks g c =
    let e = few_ends (graph_in c.in_ok-graph.graph) c.args.nodes.now c.args.signal.now c.args.wires.now c.in_ok-graph.ensures c.requires.canvas in
    let l = c.fold.ensures.looks in
    omega (arith, e, l)
