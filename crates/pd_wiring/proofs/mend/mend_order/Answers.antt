use Rattle.std.proofs.Common.{arith, ◌≤◌, ◌+◌, sym, subst}
use Rattle.pd_order.specs.Graph.{IsOrder, cut_wire, add_wire}
use Rattle.pd_order.specs.Spots.{nodes_of}
use Rattle.pd_order.proofs.MendLemmas.{order_nodes}
use Rattle.pd_wiring.specs.declared.mend.Change.{Change}
use Rattle.pd_wiring.specs.Graphs.{canvas_graph, signal_boxes, graph_before, graph_with}
use Rattle.pd_wiring.specs.Changes.{mending}
use Rattle.pd_wiring.proofs.MendLemmas.{spots_are, lawful_nodes, there_nodes}
use Rattle.pd_wiring.proofs.PlaceLemmas.{places_of}
use Rattle.pd_wiring.proofs.mend.mend_order.Goals as goal

pub mend_add-requires-clause-lawful : goal.mend_add-requires-clause-lawful
mend_add-requires-clause-lawful g c =
    let s = c.args.graph.now in
    let G = canvas_graph s.grove.now s.links.now s.canvas in
    let ns = signal_boxes s.grove.now s.canvas in
    let o = c.args.order.now in
    lawful_nodes G ns (nodes_of o.spots) (spots_are (graph_before c.args.change G c.args.wire) ns o c.requires.order c.laws.ensures.listed) c.requires.ready.lawful

pub mend_add-requires-clause-wire : goal.mend_add-requires-clause-wire
mend_add-requires-clause-wire g c = c.requires.ready.wire c.in-Came.is

pub mend_add-requires-clause-order : goal.mend_add-requires-clause-order
mend_add-requires-clause-order g c =
    let s = c.args.graph.now in
    let G = canvas_graph s.grove.now s.links.now s.canvas in
    let ns = signal_boxes s.grove.now s.canvas in
    let o = c.args.order.now in
    let was = subst (λ (x : Change). IsOrder (graph_before x G c.args.wire) ns o.chain o.stuck) c.in-Came.is c.requires.order in
    order_nodes (cut_wire G c.args.wire.source c.args.wire.sink) ns (nodes_of o.spots) o.chain o.stuck
    (spots_are (graph_before c.args.change G c.args.wire) ns o c.requires.order c.laws.ensures.listed) was

pub mend_cut-requires-clause-lawful : goal.mend_cut-requires-clause-lawful
mend_cut-requires-clause-lawful g c =
    let s = c.args.graph.now in
    let G = canvas_graph s.grove.now s.links.now s.canvas in
    let ns = signal_boxes s.grove.now s.canvas in
    let o = c.args.order.now in
    lawful_nodes G ns (nodes_of o.spots) (spots_are (graph_before c.args.change G c.args.wire) ns o c.requires.order c.laws.ensures.listed) c.requires.ready.lawful

pub mend_cut-requires-clause-there : goal.mend_cut-requires-clause-there
mend_cut-requires-clause-there g c =
    let s = c.args.graph.now in
    let G = canvas_graph s.grove.now s.links.now s.canvas in
    let ns = signal_boxes s.grove.now s.canvas in
    let o = c.args.order.now in
    there_nodes ns (nodes_of o.spots) c.args.wire.sink (spots_are (graph_before c.args.change G c.args.wire) ns o c.requires.order c.laws.ensures.listed) c.requires.ready.sink

pub mend_cut-requires-clause-order : goal.mend_cut-requires-clause-order
mend_cut-requires-clause-order g c =
    let s = c.args.graph.now in
    let G = canvas_graph s.grove.now s.links.now s.canvas in
    let ns = signal_boxes s.grove.now s.canvas in
    let o = c.args.order.now in
    let was = subst (λ (x : Change). IsOrder (graph_before x G c.args.wire) ns o.chain o.stuck) c.in-Went.is c.requires.order in
    order_nodes (add_wire G c.args.wire.source c.args.wire.sink) ns (nodes_of o.spots) o.chain o.stuck
    (spots_are (graph_before c.args.change G c.args.wire) ns o c.requires.order c.laws.ensures.listed) was

pub returns-in-Came-clause-order : goal.returns-in-Came-clause-order
returns-in-Came-clause-order g c =
    let s = c.args.graph.now in
    let G = canvas_graph s.grove.now s.links.now s.canvas in
    let ns = signal_boxes s.grove.now s.canvas in
    let o = c.args.order.now in
    let n = c.mend_add.new.self in
    order_nodes G (nodes_of o.spots) ns n.chain n.stuck (λ x. sym (spots_are (graph_before c.args.change G c.args.wire) ns o c.requires.order c.laws.ensures.listed x)) c.mend_add.ensures.order

pub returns-in-Came-clause-places : goal.returns-in-Came-clause-places
returns-in-Came-clause-places g c = places_of c.args.order.now c.mend_add.new.self c.mend_add.ensures.nodes c.mend_add.ensures.room

pub returns-in-Came-clause-looks : goal.returns-in-Came-clause-looks
returns-in-Came-clause-looks g c =
    let s = c.args.graph.now in
    let G = canvas_graph s.grove.now s.links.now s.canvas in
    subst (λ (x : Change). c.mend_add.new.steps ≤ c.args.steps.now + mending (graph_with x G c.args.wire) c.args.wire.sink c.args.order.now c.mend_add.new.self) (sym c.in-Came.is) (let h = c.mend_add.ensures.looks in omega (arith, h))

pub returns-in-Went-clause-order : goal.returns-in-Went-clause-order
returns-in-Went-clause-order g c =
    let s = c.args.graph.now in
    let G = canvas_graph s.grove.now s.links.now s.canvas in
    let ns = signal_boxes s.grove.now s.canvas in
    let o = c.args.order.now in
    let n = c.mend_cut.new.self in
    order_nodes G (nodes_of o.spots) ns n.chain n.stuck (λ x. sym (spots_are (graph_before c.args.change G c.args.wire) ns o c.requires.order c.laws.ensures.listed x)) c.mend_cut.ensures.order

pub returns-in-Went-clause-places : goal.returns-in-Went-clause-places
returns-in-Went-clause-places g c = places_of c.args.order.now c.mend_cut.new.self c.mend_cut.ensures.nodes c.mend_cut.ensures.room

pub returns-in-Went-clause-looks : goal.returns-in-Went-clause-looks
returns-in-Went-clause-looks g c =
    let s = c.args.graph.now in
    let G = canvas_graph s.grove.now s.links.now s.canvas in
    subst (λ (x : Change). c.mend_cut.new.steps ≤ c.args.steps.now + mending (graph_with x G c.args.wire) c.args.wire.sink c.args.order.now c.mend_cut.new.self) (sym c.in-Went.is) (let h = c.mend_cut.ensures.looks in omega (arith, h))
