use Rattle.std.proofs.Common.{◌+◌, sym, subst}
use Rattle.std.specs.Prelude.{Option}
use Rattle.pd_order.specs.Graph.{take_out}
use Rattle.pd_order.specs.Listing.{Listing}
use Rattle.pd_wiring.specs.Graphs.{graph_told, signal_told, IsOrderIn}
use Rattle.pd_wiring.proofs.SlotLemmas.{slot_there, slot_is, slot_set, slot_kept}
use Rattle.pd_placing.specs.Room.{HasPlaces}
use Rattle.pd_placing.proofs.joining.join_in.Goals as goal

pub bounds-orders-graph : goal.bounds-orders-graph
bounds-orders-graph g c =
    let s = c.args.graph.now in
    slot_there (graph_told s) (take_out c.args.key (signal_told s)) c.args.orders.now s.canvas c.requires.order

pub join_slot-requires-clause-order : goal.join_slot-requires-clause-order
join_slot-requires-clause-order g c =
    let s = c.args.graph.now in
    let ns = take_out c.args.key (signal_told s) in
    let there = slot_there (graph_told s) ns c.args.orders.now s.canvas c.requires.order in
    subst (IsOrderIn (graph_told s) ns) (sym (slot_is c.args.orders.now s.canvas c.index-orders-graph.result there)) c.requires.order

pub join_slot-requires-clause-room : goal.join_slot-requires-clause-room
join_slot-requires-clause-room g c =
    let s = c.args.graph.now in
    let there = slot_there (graph_told s) (take_out c.args.key (signal_told s)) c.args.orders.now s.canvas c.requires.order in
    subst (λ (o : Option Listing). HasPlaces o 1) (sym (slot_is c.args.orders.now s.canvas c.index-orders-graph.result there)) c.requires.room

pub returns-clause-order : goal.returns-clause-order
returns-clause-order g c =
    let s = c.args.graph.now in
    let there = slot_there (graph_told s) (take_out c.args.key (signal_told s)) c.args.orders.now s.canvas c.requires.order in
    subst (IsOrderIn (graph_told s) (signal_told s)) (sym (slot_set c.args.orders.now s.canvas c.join_slot.new.slot there)) c.join_slot.ensures.order

pub returns-clause-others : goal.returns-clause-others
returns-clause-others g c = λ k differ. slot_kept c.args.orders.now c.args.graph.now.canvas k c.join_slot.new.slot differ

pub returns-clause-places : goal.returns-clause-places
returns-clause-places g c =
    let s = c.args.graph.now in
    let there = slot_there (graph_told s) (take_out c.args.key (signal_told s)) c.args.orders.now s.canvas c.requires.order in
    let old = slot_is c.args.orders.now s.canvas c.index-orders-graph.result there in
    let new = slot_set c.args.orders.now s.canvas c.join_slot.new.slot there in
    λ n h. subst (λ (o : Option Listing). HasPlaces o n) (sym new) (c.join_slot.ensures.places n (subst (λ (o : Option Listing). HasPlaces o (n + 1)) (sym old) h))
