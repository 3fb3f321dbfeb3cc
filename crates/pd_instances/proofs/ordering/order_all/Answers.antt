use Rattle.std.proofs.Common.{◌≡◌, ◌≤◌, ◌+◌, ℕ, List, take, drop, length, refl, sym, ap, ◌∙◌, subst, arith}
use Rattle.std.specs.List.{AllZip, flat_map}
use Rattle.std.proofs.lemmas.List.{take_all}
use Rattle.slab.specs.Slab.{get}
use Rattle.pd_grove.specs.Telling.{inner_in}
use Rattle.pd_grove.specs.TextOrder.{keys_of_spots}
use Rattle.pd_patch.specs.Telling.{order_in}
use Rattle.pd_instances.specs.Needs.{inside_at, IsOrderRoom}
use Rattle.pd_instances.specs.Layers.{OrdersAll}
use Rattle.pd_instances.specs.Part.{looks_of, looks_held}
use Rattle.pd_instances.proofs.LoopLemmas.{it, it_among, keys_more, keys_left}
use Rattle.pd_instances.proofs.OrderLemmas.{orders_none, orders_next, next_order, orders_left, looks_last, one_inside}
use Rattle.pd_instances.proofs.ordering.order_all.Goals as goal

pub order_inside-requires-clause-room : goal.order_inside-requires-clause-room
order_inside-requires-clause-room g c =
    let spots = c.args.spots.now in
    let i = c.loop-spot.spot-index in
    let low = c.loop-spot-test.true in
    let h = c.args.grove.now in
    next_order (inside_at h (it spots i low)) (flat_map (inside_at h) (keys_of_spots (drop (i + 1) spots))) c.loop-spot.rooms.items
    (subst (λ ks. AllZip IsOrderRoom (flat_map (inside_at h) ks) c.loop-spot.rooms.items) (keys_left spots i low) c.loop-spot.invariant.rooms) (one_inside h (it spots i low))

pub order_inside-requires-clause-board : goal.order_inside-requires-clause-board
order_inside-requires-clause-board g c = λ k e. c.requires.boards (it c.args.spots.now c.loop-spot.spot-index c.loop-spot-test.true) k (it_among c.args.spots.now c.loop-spot.spot-index c.loop-spot-test.true) e

pub order_inside-requires-clause-slots : goal.order_inside-requires-clause-slots
order_inside-requires-clause-slots g c = λ k e. let s = c.requires.slots (it c.args.spots.now c.loop-spot.spot-index c.loop-spot-test.true) k (it_among c.args.spots.now c.loop-spot.spot-index c.loop-spot-test.true) e in let n = c.loop-spot.invariant.slots in omega (arith, s, n)

pub order_inside-requires-clause-list : goal.order_inside-requires-clause-list
order_inside-requires-clause-list g c = λ k e. let s = c.requires.lists (it c.args.spots.now c.loop-spot.spot-index c.loop-spot-test.true) k (it_among c.args.spots.now c.loop-spot.spot-index c.loop-spot-test.true) e in let n = c.loop-spot.invariant.list in omega (arith, s, n)

pub loop-spot-init : goal.loop-spot-init
loop-spot-init g c = record { orders = orders_none c.args.grove.now c.args.links.now c.args.orders.now.items; slots = refl; rooms = c.requires.rooms; list = refl; looks = omega arith }

pub loop-spot-preserved : goal.loop-spot-preserved
loop-spot-preserved g c =
    let spots = c.args.spots.now in
    let i = c.loop-spot.spot-index in
    let h = c.args.grove.now in
    let l = c.args.links.now in
    let low = c.loop-spot-test.true in
    let k : ℕ = it spots i low in
    let ks = keys_of_spots (take i spots) in
    let inv = c.loop-spot.invariant in
    let E = c.order_inside.ensures in
    let more = keys_more spots i low in
    record {
      orders = subst (λ xs. OrdersAll h l c.args.orders.now.items c.order_inside.new.orders.items xs) (sym more)
          (orders_next h l c.args.orders.now.items c.loop-spot.orders.items c.order_inside.new.orders.items ks k inv.orders E.order E.others (λ e x. ap (λ os. order_in os.items x) (E.none e)));
      slots = E.slots ∙ inv.slots;
      rooms = subst (λ rs. AllZip IsOrderRoom (flat_map (inside_at h) (keys_of_spots (drop (i + 1) spots))) rs) (sym E.rest)
          (orders_left (inside_at h k) (flat_map (inside_at h) (keys_of_spots (drop (i + 1) spots))) c.loop-spot.rooms.items
          (subst (λ xs. AllZip IsOrderRoom (flat_map (inside_at h) xs) c.loop-spot.rooms.items) (keys_left spots i low) inv.rooms));
      list = E.list ∙ inv.list;
      looks = (let a = inv.looks in let b = E.looks in let n = ap (looks_of h l) more ∙ looks_last h l ks k in omega (arith, a, b, n));
    }

pub returns-clause-orders : goal.returns-clause-orders
returns-clause-orders g c =
    subst (λ ps. OrdersAll c.args.grove.now c.args.links.now c.args.orders.now.items c.loop-spot.orders.items (keys_of_spots ps)) (take_all c.loop-spot.spot-index c.args.spots.now c.loop-spot-test.false) c.loop-spot.invariant.orders

pub returns-clause-looks : goal.returns-clause-looks
returns-clause-looks g c =
    let e = ap (λ ps. looks_of c.args.grove.now c.args.links.now (keys_of_spots ps)) (take_all c.loop-spot.spot-index c.args.spots.now c.loop-spot-test.false) in
    let a = c.loop-spot.invariant.looks in omega (arith, a, e)
