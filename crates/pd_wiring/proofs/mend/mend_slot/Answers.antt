use Rattle.std.proofs.Common.{◌≤◌, ◌+◌, sym, subst}
use Rattle.std.specs.Prelude.{Option, Some}
use Rattle.pd_order.specs.Listing.{Listing}
use Rattle.pd_wiring.specs.Graphs.{canvas_graph, signal_boxes, graph_before, graph_with, IsOrderIn}
use Rattle.pd_wiring.specs.Changes.{most_mending, SamePlaces}
use Rattle.pd_wiring.proofs.mend.mend_slot.Goals as goal

pub mend_order-requires-clause-order : goal.mend_order-requires-clause-order
mend_order-requires-clause-order g c =
    let s = c.args.graph.now in
    let G = canvas_graph s.grove.now s.links.now s.canvas in
    subst (IsOrderIn (graph_before c.args.change G c.args.wire) (signal_boxes s.grove.now s.canvas)) c.in-Some.is c.requires.order

pub returns-in-Some-clause-order : goal.returns-in-Some-clause-order
returns-in-Some-clause-order g c = c.mend_order.ensures.order

pub returns-in-Some-clause-places : goal.returns-in-Some-clause-places
returns-in-Some-clause-places g c = subst (λ (o : Option Listing). SamePlaces o (Some c.mend_order.new.order)) (sym c.in-Some.is) c.mend_order.ensures.places

pub returns-in-Some-clause-looks : goal.returns-in-Some-clause-looks
returns-in-Some-clause-looks g c =
    let s = c.args.graph.now in
    let G = canvas_graph s.grove.now s.links.now s.canvas in
    subst (λ (o : Option Listing). c.mend_order.new.steps ≤ c.args.steps.now + most_mending (graph_with c.args.change G c.args.wire) c.args.wire.sink o (Some c.mend_order.new.order)) (sym c.in-Some.is) c.mend_order.ensures.looks

pub returns-in-None-clause-order : goal.returns-in-None-clause-order
returns-in-None-clause-order g c =
    let s = c.args.graph.now in
    let G = canvas_graph s.grove.now s.links.now s.canvas in
    absurd (subst (IsOrderIn (graph_before c.args.change G c.args.wire) (signal_boxes s.grove.now s.canvas)) c.in-None.is c.requires.order)
