use Rattle.std.proofs.Common.{◌+◌, sym, subst}
use Rattle.std.specs.Prelude.{Option}
use Rattle.pd_order.specs.Graph.{take_out}
use Rattle.pd_order.specs.Listing.{Listing}
use Rattle.pd_wiring.specs.Graphs.{graph_told, signal_told, IsOrderIn}
use Rattle.pd_wiring.proofs.SlotLemmas.{slot_there, slot_is, slot_set, slot_kept}
use Rattle.pd_placing.specs.Room.{HasPlaces}
use Rattle.pd_placing.proofs.leaving.leave_in.Goals as goal

pub bounds-orders-graph : goal.bounds-orders-graph
bounds-orders-graph c = let s = c.args.graph.now in slot_there (graph_told s) (signal_told s) c.args.orders.now s.canvas c.requires.order

pub leave_slot-requires-clause-order : goal.leave_slot-requires-clause-order
leave_slot-requires-clause-order c =
    let s = c.args.graph.now in
    let there = slot_there (graph_told s) (signal_told s) c.args.orders.now s.canvas c.requires.order in
    subst (IsOrderIn (graph_told s) (signal_told s)) (sym (slot_is c.args.orders.now s.canvas c.index-orders-graph.result there)) c.requires.order

pub returns-clause-order : goal.returns-clause-order
returns-clause-order c =
    let s = c.args.graph.now in
    let there = slot_there (graph_told s) (signal_told s) c.args.orders.now s.canvas c.requires.order in
    subst (IsOrderIn (graph_told s) (take_out c.args.key (signal_told s))) (sym (slot_set c.args.orders.now s.canvas c.leave_slot.new.slot there)) c.leave_slot.ensures.order

pub returns-clause-others : goal.returns-clause-others
returns-clause-others c = λ k differ. slot_kept c.args.orders.now c.args.graph.now.canvas k c.leave_slot.new.slot differ

pub returns-clause-places : goal.returns-clause-places
returns-clause-places c =
    let s = c.args.graph.now in
    let there = slot_there (graph_told s) (signal_told s) c.args.orders.now s.canvas c.requires.order in
    let old = slot_is c.args.orders.now s.canvas c.index-orders-graph.result there in
    let new = slot_set c.args.orders.now s.canvas c.leave_slot.new.slot there in
    λ n h. subst (λ (o : Option Listing). HasPlaces o (n + 1)) (sym new) (c.leave_slot.ensures.places n (subst (λ (o : Option Listing). HasPlaces o n) (sym old) h))
