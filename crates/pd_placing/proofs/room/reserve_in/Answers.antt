use Rattle.std.proofs.Common.{sym, subst}
use Rattle.std.specs.Prelude.{Option, OnOk}
use Rattle.pd_order.specs.Listing.{Listing}
use Rattle.pd_patch.specs.Telling.{order_in}
use Rattle.pd_wiring.proofs.SlotLemmas.{slot_is, slot_set, slot_kept}
use Rattle.pd_placing.specs.Room.{HasPlaces, IsSameButRoom}
use Rattle.pd_placing.proofs.PlaceLemmas.{some_there}
use Rattle.pd_placing.proofs.room.reserve_in.Goals as goal

pub bounds-orders-canvas : goal.bounds-orders-canvas
bounds-orders-canvas c = some_there c.args.orders.now c.args.canvas c.requires

pub returns-clause-places : goal.returns-clause-places
returns-clause-places c =
    let there = some_there c.args.orders.now c.args.canvas c.requires in
    let new = slot_set c.args.orders.now c.args.canvas c.reserve_slot.new.slot there in
    subst (λ (o : Option Listing). OnOk c.reserve_slot.result (HasPlaces o c.args.boxes)) (sym new) c.reserve_slot.ensures.places

pub returns-clause-same : goal.returns-clause-same
returns-clause-same c =
    let there = some_there c.args.orders.now c.args.canvas c.requires in
    let old = slot_is c.args.orders.now c.args.canvas c.index-orders-canvas.result there in
    let new = slot_set c.args.orders.now c.args.canvas c.reserve_slot.new.slot there in
    subst (λ (o : Option Listing). IsSameButRoom (order_in c.args.orders.now c.args.canvas) o) (sym new)
    (subst (λ (o : Option Listing). IsSameButRoom o c.reserve_slot.new.slot) old c.reserve_slot.ensures.same)

pub returns-clause-others : goal.returns-clause-others
returns-clause-others c = λ k differ. slot_kept c.args.orders.now c.args.canvas k c.reserve_slot.new.slot differ
