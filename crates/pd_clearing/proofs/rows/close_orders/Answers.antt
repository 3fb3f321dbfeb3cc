use Rattle.std.proofs.Common.{take, get_or, false, sym, subst}
use Rattle.std.proofs.lemmas.List.{take_more, take_all}
use Rattle.pd_grove.specs.declared.spots.Spot.{Spot}
use Rattle.pd_grove.specs.TextOrder.{keys_of_spots}
use Rattle.pd_clearing.specs.Layers.{DropsOrders}
use Rattle.pd_clearing.proofs.RowLemmas.{orders_next, orders_none}
use Rattle.pd_clearing.proofs.rows.close_orders.Goals as goal

abbrev none : Spot
none = record { node = 0; is_top = false }

pub loop-spot-init : goal.loop-spot-init
loop-spot-init c = orders_none c.args.grove.now c.args.orders.now.items

pub loop-spot-preserved : goal.loop-spot-preserved
loop-spot-preserved c =
    let i = c.loop-spot.spot-index in
    let spots = c.args.spots.now in
    let p = get_or spots i none in
    subst (λ qs. DropsOrders c.args.grove.now c.args.orders.now.items c.close_inside.new.orders.items (keys_of_spots qs)) (sym (take_more spots i none c.loop-spot-test.true))
    (orders_next c.args.grove.now c.args.orders.now.items c.loop-spot.orders.items c.close_inside.new.orders.items (take i spots) p c.canvas_in.result
    c.loop-spot.invariant c.canvas_in.ensures c.close_inside.ensures.none c.close_inside.ensures.others)

pub returns : goal.returns
returns c = subst (λ qs. DropsOrders c.args.grove.now c.args.orders.now.items c.loop-spot.orders.items (keys_of_spots qs)) (take_all c.loop-spot.spot-index c.args.spots.now c.loop-spot-test.false) c.loop-spot.invariant
