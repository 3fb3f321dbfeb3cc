use Rattle.std.proofs.Common.{[], replicate, refl, ap, ◌∙◌, subst, arith}
use Rattle.pd_kind.specs.States.{silent_block}
use Rattle.pd_owning.specs.Bound.{HasRoom as HasOwnerRoom}
use Rattle.pd_patch.specs.Telling.{order_in}
use Rattle.pd_patch.specs.Values.{blocks_told}
use Rattle.pd_placing.specs.Room.{HasPlaces}
use Rattle.pd_wiring.proofs.BuiltLemmas.{same_links}
use Rattle.pd_boxes.proofs.KindLemmas.{blocks_count, inlet_count, outlet_count}
use Rattle.pd_boxes.proofs.ReserveLemmas.{same_grove, same_web, same_order, same_orders, lists_for, longer_self}
use Rattle.pd_refitting.proofs.RoomLemmas.{room_below}
use Rattle.pd_refitting.proofs.reserving.reserve_refit.Goals as goal

pub returns-in_err-blocks-clause-same : goal.returns-in_err-blocks-clause-same
returns-in_err-blocks-clause-same c =
    let p = c.args.patch.now in
    record {
      grove = same_grove p.grove;
      web = same_web p.web;
      names = λ class name. refl;
      links = same_links p.links;
      orders = λ d. same_order (order_in p.orders.items d);
      numbers = longer_self 0 p.numbers.items;
      values = longer_self [] (blocks_told p);
      clocks = refl;
      end = omega arith;
      rate = refl;
      present = refl;
    }

pub returns-in_err-ports-clause-same : goal.returns-in_err-ports-clause-same
returns-in_err-ports-clause-same c =
    let p = c.args.patch.now in
    record {
      grove = same_grove p.grove;
      web = c.reserve_ports.ensures.same;
      names = λ class name. refl;
      links = same_links p.links;
      orders = λ d. same_order (order_in p.orders.items d);
      numbers = longer_self 0 p.numbers.items;
      values = longer_self [] (blocks_told p);
      clocks = refl;
      end = omega arith;
      rate = refl;
      present = refl;
    }

pub returns-in_err-reserve_owner-clause-same : goal.returns-in_err-reserve_owner-clause-same
returns-in_err-reserve_owner-clause-same c =
    let p = c.args.patch.now in
    record {
      grove = same_grove p.grove;
      web = c.reserve_ports.ensures.same;
      names = c.reserve_owner.ensures.owners;
      links = same_links p.links;
      orders = λ d. same_order (order_in p.orders.items d);
      numbers = longer_self 0 p.numbers.items;
      values = longer_self [] (blocks_told p);
      clocks = refl;
      end = omega arith;
      rate = refl;
      present = refl;
    }

pub returns-in_err-reach_values-clause-same : goal.returns-in_err-reach_values-clause-same
returns-in_err-reach_values-clause-same c =
    let p = c.args.patch.now in
    record {
      grove = same_grove p.grove;
      web = c.reserve_ports.ensures.same;
      names = c.reserve_owner.ensures.owners;
      links = same_links p.links;
      orders = λ d. same_order (order_in p.orders.items d);
      numbers = longer_self 0 p.numbers.items;
      values = c.reach_values.ensures.longer;
      clocks = refl;
      end = omega arith;
      rate = refl;
      present = refl;
    }

pub returns-in_err-reserve_place-clause-same : goal.returns-in_err-reserve_place-clause-same
returns-in_err-reserve_place-clause-same c =
    let p = c.args.patch.now in
    record {
      grove = same_grove p.grove;
      web = c.reserve_ports.ensures.same;
      names = c.reserve_owner.ensures.owners;
      links = same_links p.links;
      orders = same_orders p.orders.items c.reserve_place.new.orders.items c.canvas_of-canvas.result c.reserve_place.ensures.same c.reserve_place.ensures.others;
      numbers = longer_self 0 p.numbers.items;
      values = c.reach_values.ensures.longer;
      clocks = refl;
      end = omega arith;
      rate = refl;
      present = refl;
    }

pub returns-clause-same : goal.returns-clause-same
returns-clause-same c =
    let p = c.args.patch.now in
    record {
      grove = same_grove p.grove;
      web = c.reserve_ports.ensures.same;
      names = c.reserve_owner.ensures.owners;
      links = same_links p.links;
      orders = same_orders p.orders.items c.reserve_place.new.orders.items c.canvas_of-canvas.result c.reserve_place.ensures.same c.reserve_place.ensures.others;
      numbers = longer_self 0 p.numbers.items;
      values = c.reach_values.ensures.longer;
      clocks = refl;
      end = omega arith;
      rate = refl;
      present = refl;
    }

pub returns-clause-room : goal.returns-clause-room
returns-clause-room c =
    let kind = c.args.seed.row.kind in
    let list = c.ports-list.result in
    let reach = c.in_ok-reach_values.ensures.reach in
    record {
      web = room_below c.args.patch.now.grove c.reserve_ports.new.web c.nodes_end-end.result c.nodes_end-end.ensures.slots c.in_ok-ports.ensures.room;
      ports = lists_for c.in_ok-ports.ports c.inlets-inlet_count.result c.outlets-outlet_count.result _ _
          (c.inlets-inlet_count.ensures ∙ inlet_count kind list c.ports-list.ensures) (c.outlets-outlet_count.ensures ∙ outlet_count kind list c.ports-list.ensures) c.in_ok-ports.ensures.lists;
      order = λ n is. subst (λ x. HasPlaces (order_in c.reserve_place.new.orders.items x) 1) (c.canvas_of-canvas.ensures n is) c.in_ok-reserve_place.ensures.places;
      owner = subst (λ o. HasOwnerRoom c.reserve_owner.new.names o 1) c.name_of_row-owned.ensures.value c.in_ok-reserve_owner.ensures.room;
      values = omega (arith, reach);
      blocks = c.in_ok-blocks.ensures ∙ ap (λ n. replicate n silent_block) (c.block_count_of-count.ensures ∙ blocks_count kind list c.ports-list.ensures);
    }
