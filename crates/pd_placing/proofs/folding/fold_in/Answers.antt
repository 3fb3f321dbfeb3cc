use Rattle.std.proofs.Common.{length, sym, subst}
use Rattle.std.specs.Prelude.{Option}
use Rattle.pd_order.specs.Listing.{Listing}
use Rattle.pd_wiring.specs.Graphs.{graph_told, signal_told, IsOrderIn}
use Rattle.pd_wiring.proofs.SlotLemmas.{slot_is, slot_set, slot_kept}
use Rattle.pd_placing.specs.Room.{HasPlaces}
use Rattle.pd_placing.proofs.PlaceLemmas.{placed_there}
use Rattle.pd_placing.proofs.folding.fold_in.Goals as goal

pub bounds-orders-graph : goal.bounds-orders-graph
bounds-orders-graph g c = placed_there c.args.orders.now c.args.graph.now.canvas (length c.args.signal.now) c.requires.room

pub fold_slot-requires-clause-room : goal.fold_slot-requires-clause-room
fold_slot-requires-clause-room g c =
    let k = c.args.graph.now.canvas in
    let there = placed_there c.args.orders.now k (length c.args.signal.now) c.requires.room in
    subst (λ (o : Option Listing). HasPlaces o (length c.args.signal.now)) (sym (slot_is c.args.orders.now k c.index-orders-graph.result there)) c.requires.room

pub returns-clause-order : goal.returns-clause-order
returns-clause-order g c =
    let s = c.args.graph.now in
    let there = placed_there c.args.orders.now s.canvas (length c.args.signal.now) c.requires.room in
    subst (IsOrderIn (graph_told s) (signal_told s)) (sym (slot_set c.args.orders.now s.canvas c.fold_slot.new.slot there)) c.fold_slot.ensures.order

pub returns-clause-others : goal.returns-clause-others
returns-clause-others g c = λ k differ. slot_kept c.args.orders.now c.args.graph.now.canvas k c.fold_slot.new.slot differ
