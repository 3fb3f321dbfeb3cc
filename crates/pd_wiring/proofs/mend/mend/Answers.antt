use Rattle.std.proofs.Common.{◌≤◌, ◌+◌, sym, subst}
use Rattle.std.specs.Prelude.{Option}
use Rattle.pd_order.specs.Listing.{Listing}
use Rattle.pd_patch.specs.Telling.{order_in}
use Rattle.pd_wiring.specs.Graphs.{canvas_graph, signal_boxes, graph_before, graph_with, IsOrderIn}
use Rattle.pd_wiring.specs.Changes.{most_mending, SamePlaces}
use Rattle.pd_wiring.proofs.SlotLemmas.{slot_there, slot_is, slot_set, slot_kept}
use Rattle.pd_wiring.proofs.PlaceLemmas.{slot_places}
use Rattle.pd_wiring.proofs.mend.mend.Goals as goal

pub bounds-orders-graph : goal.bounds-orders-graph
bounds-orders-graph g c =
    let s = c.args.graph.now in
    let G = canvas_graph s.grove.now s.links.now s.canvas in
    slot_there (graph_before c.args.change G c.args.wire) (signal_boxes s.grove.now s.canvas) c.args.orders.now s.canvas c.requires.order

pub mend_slot-requires-clause-order : goal.mend_slot-requires-clause-order
mend_slot-requires-clause-order g c =
    let s = c.args.graph.now in
    let G = canvas_graph s.grove.now s.links.now s.canvas in
    let ns = signal_boxes s.grove.now s.canvas in
    let there = slot_there (graph_before c.args.change G c.args.wire) ns c.args.orders.now s.canvas c.requires.order in
    subst (IsOrderIn (graph_before c.args.change G c.args.wire) ns) (sym (slot_is c.args.orders.now s.canvas c.index-orders-graph.result there)) c.requires.order

pub returns-clause-order : goal.returns-clause-order
returns-clause-order g c =
    let s = c.args.graph.now in
    let G = canvas_graph s.grove.now s.links.now s.canvas in
    let ns = signal_boxes s.grove.now s.canvas in
    let there = slot_there (graph_before c.args.change G c.args.wire) ns c.args.orders.now s.canvas c.requires.order in
    subst (IsOrderIn G ns) (sym (slot_set c.args.orders.now s.canvas c.mend_slot.new.slot there)) c.mend_slot.ensures.order

pub returns-clause-others : goal.returns-clause-others
returns-clause-others g c = λ k differ. slot_kept c.args.orders.now c.args.graph.now.canvas k c.mend_slot.new.slot differ

pub returns-clause-places : goal.returns-clause-places
returns-clause-places g c =
    let s = c.args.graph.now in
    let G = canvas_graph s.grove.now s.links.now s.canvas in
    let there = slot_there (graph_before c.args.change G c.args.wire) (signal_boxes s.grove.now s.canvas) c.args.orders.now s.canvas c.requires.order in
    let old = slot_is c.args.orders.now s.canvas c.index-orders-graph.result there in
    slot_places c.args.orders.now s.canvas c.mend_slot.new.slot (subst (λ (o : Option Listing). SamePlaces o c.mend_slot.new.slot) old c.mend_slot.ensures.places)

pub returns-clause-looks : goal.returns-clause-looks
returns-clause-looks g c =
    let s = c.args.graph.now in
    let G = canvas_graph s.grove.now s.links.now s.canvas in
    let ns = signal_boxes s.grove.now s.canvas in
    let there = slot_there (graph_before c.args.change G c.args.wire) ns c.args.orders.now s.canvas c.requires.order in
    let whole = graph_with c.args.change G c.args.wire in
    let old = slot_is c.args.orders.now s.canvas c.index-orders-graph.result there in
    let new = slot_set c.args.orders.now s.canvas c.mend_slot.new.slot there in
    subst (λ (o : Option Listing). c.mend_slot.new.steps ≤ c.args.steps.now + most_mending whole c.args.wire.sink (order_in c.args.orders.now s.canvas) o) (sym new)
    (subst (λ (o : Option Listing). c.mend_slot.new.steps ≤ c.args.steps.now + most_mending whole c.args.wire.sink o c.mend_slot.new.slot) old c.mend_slot.ensures.looks)
