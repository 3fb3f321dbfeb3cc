use Rattle.std.proofs.Common.{◌≡◌, ◌≢◌, ◌+◌, ◌<◌, ◌^◌, ℕ, [], Some, length, map, refl, sym, ap, ◌∙◌, subst, arith}
use Rattle.std.specs.Prelude.{option_map}
use Rattle.std.specs.List.{AllZip}
use Rattle.slab.specs.Slab.{get}
use Rattle.pd_name.specs.declared.Class.{Class}
use Rattle.pd_name.specs.Rows.{OwnersStay}
use Rattle.pd_tree.specs.Trees.{stands_in}
use Rattle.pd_grove.specs.declared.grove.Grove.{Grove}
use Rattle.pd_grove.specs.Planting.{stands_ready, AreRoomy}
use Rattle.pd_grove.specs.Room.{HasPlace, IsSameButRoom}
use Rattle.pd_grove.specs.Standing.{board_seen}
use Rattle.pd_grove.specs.States.{SeedsSmall}
use Rattle.pd_owning.specs.Bound.{HasRoom as HasOwnerRoom}
use Rattle.pd_web.specs.Canvases.{keys_at}
use Rattle.pd_web.proofs.ChangeLemmas.{same_more}
use Rattle.pd_patch.specs.declared.patch.Patch.{Patch}
use Rattle.pd_patch.specs.Telling.{order_in}
use Rattle.pd_patch.specs.Values.{blocks_told}
use Rattle.pd_wiring.proofs.BuiltLemmas.{same_links}
use Rattle.pd_boxes.proofs.ReserveLemmas.{longer_self, same_grove, same_order, same_orders}
use Rattle.pd_instances.specs.declared.room.PartRoom.{PartRoom}
use Rattle.pd_instances.specs.Needs.{insides_of, needs_of, wires_all, AreLinkRooms, IsOrderRoom}
use Rattle.pd_instances.specs.Room.{owning_among}
use Rattle.pd_instances.proofs.ReserveLemmas.{depth_seen, order_still, takes_part}
use Rattle.pd_instances.proofs.reserving.reserve_part.Goals as goal

pub returns-in_err-wires-clause-same : goal.returns-in_err-wires-clause-same
returns-in_err-wires-clause-same c =
    let p = c.args.patch.now in
    record {
      grove = same_grove p.grove;
      web = c.box_rooms.ensures.same;
      names = λ class name. refl;
      links = same_links p.links;
      orders = λ d. same_order (order_in p.orders.items d);
      numbers = longer_self 0 p.numbers.items;
      values = longer_self [] (blocks_told p);
      clocks = refl;
      end = omega arith;
      rate = refl;
      present = refl;
    }

pub returns-in_err-reserve_names-clause-same : goal.returns-in_err-reserve_names-clause-same
returns-in_err-reserve_names-clause-same c =
    let p = c.args.patch.now in
    record {
      grove = same_grove p.grove;
      web = c.box_rooms.ensures.same;
      names = c.reserve_names.ensures.owners;
      links = same_links p.links;
      orders = λ d. same_order (order_in p.orders.items d);
      numbers = longer_self 0 p.numbers.items;
      values = longer_self [] (blocks_told p);
      clocks = refl;
      end = omega arith;
      rate = refl;
      present = refl;
    }

pub returns-in_err-reserve-clause-same : goal.returns-in_err-reserve-clause-same
returns-in_err-reserve-clause-same c =
    let p = c.args.patch.now in
    record {
      grove = c.reserve.ensures.same;
      web = c.box_rooms.ensures.same;
      names = c.reserve_names.ensures.owners;
      links = same_links p.links;
      orders = λ d. same_order (order_in p.orders.items d);
      numbers = longer_self 0 p.numbers.items;
      values = longer_self [] (blocks_told p);
      clocks = refl;
      end = omega arith;
      rate = refl;
      present = refl;
    }

pub returns-in_err-take_one_more-clause-same : goal.returns-in_err-take_one_more-clause-same
returns-in_err-take_one_more-clause-same c =
    let p = c.args.patch.now in
    record {
      grove = c.reserve.ensures.same;
      web = c.box_rooms.ensures.same;
      names = c.reserve_names.ensures.owners;
      links = same_links p.links;
      orders = λ d. same_order (order_in p.orders.items d);
      numbers = longer_self 0 p.numbers.items;
      values = longer_self [] (blocks_told p);
      clocks = refl;
      end = omega arith;
      rate = refl;
      present = refl;
    }

pub returns-in_err-reach_keys-clause-same : goal.returns-in_err-reach_keys-clause-same
returns-in_err-reach_keys-clause-same c =
    let p = c.args.patch.now in
    let R = c.reach_keys.ensures.same in
    record {
      grove = subst (λ g. IsSameButRoom p.grove g) (sym c.reach_keys.ensures.grove) c.reserve.ensures.same;
      web = same_more p.web c.box_rooms.new.web c.reach_keys.new.patch.web c.box_rooms.ensures.same R.web;
      names = subst (λ ns. OwnersStay p.names ns) (sym c.reach_keys.ensures.names) c.reserve_names.ensures.owners;
      links = R.links;
      orders = R.orders;
      numbers = R.numbers;
      values = R.values;
      clocks = R.clocks;
      end = R.end;
      rate = R.rate;
      present = R.present;
    }

pub returns-in_err-reserve_place-clause-same : goal.returns-in_err-reserve_place-clause-same
returns-in_err-reserve_place-clause-same c =
    let p = c.args.patch.now in
    let R = c.reach_keys.ensures.same in
    record {
      grove = subst (λ g. IsSameButRoom p.grove g) (sym c.reach_keys.ensures.grove) c.reserve.ensures.same;
      web = same_more p.web c.box_rooms.new.web c.reach_keys.new.patch.web c.box_rooms.ensures.same R.web;
      names = subst (λ ns. OwnersStay p.names ns) (sym c.reach_keys.ensures.names) c.reserve_names.ensures.owners;
      links = R.links;
      orders = λ d. order_still (order_in p.orders.items d) (order_in c.reach_keys.new.patch.orders.items d) (order_in c.reserve_place.new.orders.items d) (R.orders d)
          (same_orders c.reach_keys.new.patch.orders.items c.reserve_place.new.orders.items c.args.place.canvas c.reserve_place.ensures.same c.reserve_place.ensures.others d);
      numbers = R.numbers;
      values = R.values;
      clocks = R.clocks;
      end = R.end;
      rate = R.rate;
      present = R.present;
    }

pub returns-in_err-spots-clause-same : goal.returns-in_err-spots-clause-same
returns-in_err-spots-clause-same c =
    let p = c.args.patch.now in
    let R = c.reach_keys.ensures.same in
    record {
      grove = subst (λ g. IsSameButRoom p.grove g) (sym c.reach_keys.ensures.grove) c.reserve.ensures.same;
      web = same_more p.web c.box_rooms.new.web c.reach_keys.new.patch.web c.box_rooms.ensures.same R.web;
      names = subst (λ ns. OwnersStay p.names ns) (sym c.reach_keys.ensures.names) c.reserve_names.ensures.owners;
      links = R.links;
      orders = λ d. order_still (order_in p.orders.items d) (order_in c.reach_keys.new.patch.orders.items d) (order_in c.reserve_place.new.orders.items d) (R.orders d)
          (same_orders c.reach_keys.new.patch.orders.items c.reserve_place.new.orders.items c.args.place.canvas c.reserve_place.ensures.same c.reserve_place.ensures.others d);
      numbers = R.numbers;
      values = R.values;
      clocks = R.clocks;
      end = R.end;
      rate = R.rate;
      present = R.present;
    }

pub returns-in_err-signal-clause-same : goal.returns-in_err-signal-clause-same
returns-in_err-signal-clause-same c =
    let p = c.args.patch.now in
    let R = c.reach_keys.ensures.same in
    record {
      grove = subst (λ g. IsSameButRoom p.grove g) (sym c.reach_keys.ensures.grove) c.reserve.ensures.same;
      web = same_more p.web c.box_rooms.new.web c.reach_keys.new.patch.web c.box_rooms.ensures.same R.web;
      names = subst (λ ns. OwnersStay p.names ns) (sym c.reach_keys.ensures.names) c.reserve_names.ensures.owners;
      links = R.links;
      orders = λ d. order_still (order_in p.orders.items d) (order_in c.reach_keys.new.patch.orders.items d) (order_in c.reserve_place.new.orders.items d) (R.orders d)
          (same_orders c.reach_keys.new.patch.orders.items c.reserve_place.new.orders.items c.args.place.canvas c.reserve_place.ensures.same c.reserve_place.ensures.others d);
      numbers = R.numbers;
      values = R.values;
      clocks = R.clocks;
      end = R.end;
      rate = R.rate;
      present = R.present;
    }

pub returns-in_err-inside-clause-same : goal.returns-in_err-inside-clause-same
returns-in_err-inside-clause-same c =
    let p = c.args.patch.now in
    let R = c.reach_keys.ensures.same in
    record {
      grove = subst (λ g. IsSameButRoom p.grove g) (sym c.reach_keys.ensures.grove) c.reserve.ensures.same;
      web = same_more p.web c.box_rooms.new.web c.reach_keys.new.patch.web c.box_rooms.ensures.same R.web;
      names = subst (λ ns. OwnersStay p.names ns) (sym c.reach_keys.ensures.names) c.reserve_names.ensures.owners;
      links = R.links;
      orders = λ d. order_still (order_in p.orders.items d) (order_in c.reach_keys.new.patch.orders.items d) (order_in c.reserve_place.new.orders.items d) (R.orders d)
          (same_orders c.reach_keys.new.patch.orders.items c.reserve_place.new.orders.items c.args.place.canvas c.reserve_place.ensures.same c.reserve_place.ensures.others d);
      numbers = R.numbers;
      values = R.values;
      clocks = R.clocks;
      end = R.end;
      rate = R.rate;
      present = R.present;
    }

pub returns-in_default-clause-same : goal.returns-in_default-clause-same
returns-in_default-clause-same c =
    let p = c.args.patch.now in
    let R = c.reach_keys.ensures.same in
    record {
      grove = subst (λ g. IsSameButRoom p.grove g) (sym c.reach_keys.ensures.grove) c.reserve.ensures.same;
      web = same_more p.web c.box_rooms.new.web c.reach_keys.new.patch.web c.box_rooms.ensures.same R.web;
      names = subst (λ ns. OwnersStay p.names ns) (sym c.reach_keys.ensures.names) c.reserve_names.ensures.owners;
      links = R.links;
      orders = λ d. order_still (order_in p.orders.items d) (order_in c.reach_keys.new.patch.orders.items d) (order_in c.reserve_place.new.orders.items d) (R.orders d)
          (same_orders c.reach_keys.new.patch.orders.items c.reserve_place.new.orders.items c.args.place.canvas c.reserve_place.ensures.same c.reserve_place.ensures.others d);
      numbers = R.numbers;
      values = R.values;
      clocks = R.clocks;
      end = R.end;
      rate = R.rate;
      present = R.present;
    }

pub returns-clause-same : goal.returns-clause-same
returns-clause-same c =
    let p = c.args.patch.now in
    let R = c.reach_keys.ensures.same in
    record {
      grove = subst (λ g. IsSameButRoom p.grove g) (sym c.reach_keys.ensures.grove) c.reserve.ensures.same;
      web = same_more p.web c.box_rooms.new.web c.reach_keys.new.patch.web c.box_rooms.ensures.same R.web;
      names = subst (λ ns. OwnersStay p.names ns) (sym c.reach_keys.ensures.names) c.reserve_names.ensures.owners;
      links = R.links;
      orders = λ d. order_still (order_in p.orders.items d) (order_in c.reach_keys.new.patch.orders.items d) (order_in c.reserve_place.new.orders.items d) (R.orders d)
          (same_orders c.reach_keys.new.patch.orders.items c.reserve_place.new.orders.items c.args.place.canvas c.reserve_place.ensures.same c.reserve_place.ensures.others d);
      numbers = R.numbers;
      values = R.values;
      clocks = R.clocks;
      end = R.end;
      rate = R.rate;
      present = R.present;
    }

pub returns-clause-room : goal.returns-clause-room
returns-clause-room c =
    let p = c.args.patch.now in
    let q : Patch = record c.reach_keys.new.patch { orders = c.reserve_place.new.orders } in
    let W = c.in_ok-reach_keys.ensures.reach in
    let rows = c.args.rows.items in
    let room : PartRoom = record { place = c.args.place; seed = c.in-Some.seed; inside = c.next.new.self; boxes = c.in_ok-boxes.boxes; links = c.in_ok-links.links; orders = c.in_ok-orders.orders; spots = c.in_ok-spots.spots; signal = c.in_ok-signal.signal } in
    let fits = c.if-count-gt-MOST_ROWS.false in
    let len = c.len-count.ensures in
    let ok = c.args.rows.ok in
    takes_part p q room c.args.symbols.now rows W.0 c.in_ok-wires.wires c.in_ok-needs.needs.items
    (sym (ap stands_ready c.in-Some.ensures) ∙ c.in_ok-inside.ensures.ready)
    c.requires.part
    (depth_seen (get q.grove.boards c.args.place.canvas) (get p.grove.boards c.args.place.canvas) (ap (λ (g : Grove). option_map board_seen (get g.boards c.args.place.canvas)) c.reach_keys.ensures.grove ∙ c.reserve.ensures.same.boards c.args.place.canvas))
    (subst (λ xs. SeedsSmall xs) c.in-Some.ensures c.in_ok-inside.ensures.small)
    (subst (λ xs. AreRoomy xs) c.in-Some.ensures c.in_ok-inside.ensures.roomy)
    (omega (arith, fits, len, ok))
    (record { boxes = W.1.boxes; low = W.1.low; numbers = W.1.numbers; values = W.1.values; clocks = W.1.clocks; links = W.1.links; orders = (let x = W.1.orders in let s = c.reserve_place.ensures.slots in omega (arith, x, s)) })
    (subst (λ g. HasPlace g c.args.place.canvas (length rows)) (sym c.reach_keys.ensures.grove) (subst (λ n. HasPlace c.reserve.new.self c.args.place.canvas n) (omega (arith, len, ok)) c.in_ok-reserve.ensures.place))
    (subst (λ (g : Grove). length (keys_at g c.args.place.canvas) + 1 < 2 ^ 32) (sym c.reach_keys.ensures.grove) c.in_ok-take_one_more.ensures)
    (c.in_ok-wires.ensures ∙ ap (λ rs. wires_all (insides_of (stands_in rs))) c.as_slice-4.ensures.value)
    W.2
    (c.in_ok-needs.ensures ∙ ap (λ rs. needs_of (stands_in rs)) c.as_slice.ensures.value)
    c.in_ok-boxes.ensures.rooms
    (subst (λ rs. AllZip AreLinkRooms (insides_of (stands_in rs)) (map (λ v. v.items) c.in_ok-links.links.items)) c.as_slice-2.ensures.value c.in_ok-links.ensures)
    (subst (λ rs. AllZip IsOrderRoom (insides_of (stands_in rs)) c.in_ok-orders.orders.items) c.as_slice-3.ensures.value c.in_ok-orders.ensures)
    c.in_ok-reserve_place.ensures.places
    (subst (λ ns. (class : Class) (name : ℕ) → owning_among c.args.symbols.now class name (stands_in rows) ≢ 0 → HasOwnerRoom ns (Some (class, name)) (owning_among c.args.symbols.now class name (stands_in rows))) (sym c.reach_keys.ensures.names)
    (subst (λ rs. (class : Class) (name : ℕ) → owning_among c.args.symbols.now class name (stands_in rs) ≢ 0 → HasOwnerRoom c.reserve_names.new.names (Some (class, name)) (owning_among c.args.symbols.now class name (stands_in rs))) c.as_slice-5.ensures.value c.in_ok-reserve_names.ensures.room))
    (record { none = c.in_ok-spots.ensures.items; no_len = c.in_ok-spots.ensures.len; fits = (let x = c.in_ok-spots.ensures.capacity in omega (arith, x, len, ok)) })
    (let x = c.in_ok-signal.ensures.capacity in omega (arith, x, len, ok))
