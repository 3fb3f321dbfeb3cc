use Rattle.std.proofs.Common.{arith, ℕ, ◌+◌, ◌<◌, ◌≤◌, List, [], ◌∷◌, length, sym, ap, ◌∙◌, subst, length-append, Option}
use Rattle.slab.specs.Slab.{get}
use Rattle.pd_order.specs.Listing.{Listing}
use Rattle.pd_patch.specs.Telling.{order_in}
use Rattle.pd_patch.specs.Orders.{HasOrder}
use Rattle.pd_patch.proofs.OrderLemmas.{ordered_more, all_ordered}
use Rattle.pd_patch.proofs.orders.orders_in.Goals as goal

pub loop-key-preserved : goal.loop-key-preserved
loop-key-preserved g0 c =
    let g = c.args.grove.now in
    let w = c.args.web.now in
    let orders = c.loop-key.orders.items in
    let order = c.in_ok-order.order in
    let same = c.in_ok-push.ensures.items in
    let longer = ap length same ∙ length-append orders (order ∷ []) in
    let count = c.loop-key.invariant.count in
    record {
      count = omega (arith, longer, count);
      each = subst (λ (os : List (Option Listing)). (k : ℕ) → k < c.loop-key.key + 1 → HasOrder g w (get g.boards k) (order_in os k)) (sym same)
          (ordered_more g w orders order c.loop-key.key count c.loop-key.invariant.each c.in_ok-order.ensures.order);
    }

pub returns : goal.returns
returns g0 c =
    let g = c.args.grove.now in
    let end : length g.boards.slots ≤ c.in_ok-end.end = c.in_ok-end.ensures in
    let past = c.loop-key-test.false in
    all_ordered g c.args.web.now c.loop-key.orders.items c.loop-key.key (omega (arith, end, past)) c.loop-key.invariant.count c.loop-key.invariant.each
