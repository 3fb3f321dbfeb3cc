use Rattle.std.proofs.Common.{◌≡◌, ◌≤◌, List, length, ap, ◌∙◌, arith}
use Rattle.slab.specs.Slab.{get}
use Rattle.pd_web.specs.Canvases.{keys_at}
use Rattle.pd_patch.specs.Orders.{is_signal_node}
use Rattle.pd_patch.specs.Telling.{order_in}
use Rattle.pd_instances.proofs.OrderLemmas.{kept_few, places_fit}
use Rattle.pd_instances.proofs.ordering.order_canvas.Goals as goal

pub fold_order-requires-clause-room : goal.fold_order-requires-clause-room
fold_order-requires-clause-room g c =
    let keys = keys_at c.args.grove.now c.args.canvas in
    let few = kept_few (λ k. is_signal_node (get c.args.grove.now.nodes k)) keys in
    let same = ap length (c.as_slice.ensures.value ∙ c.list_signal_boxes.ensures.boxes) in
    places_fit (order_in c.put_order.new.orders.items c.args.canvas) c.args.order (length keys) (length c.as_slice.result.now) c.put_order.ensures.is c.requires.room (omega (arith, few, same))
