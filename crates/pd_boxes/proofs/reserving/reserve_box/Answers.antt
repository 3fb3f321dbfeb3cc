use Rattle.std.proofs.Common.{[], length, replicate, refl, ap, ◌∙◌, subst, arith}
use Rattle.pd_kind.specs.States.{silent_block}
use Rattle.pd_grove.specs.declared.ports.Side.TheVariants.{Inlets, Outlets}
use Rattle.pd_web.specs.Jacks.{kind_jacks}
use Rattle.pd_owning.specs.Bound.{HasRoom as HasOwnerRoom}
use Rattle.pd_patch.specs.Telling.{order_in}
use Rattle.pd_patch.specs.Values.{blocks_told}
use Rattle.pd_patch.proofs.BlockLemmas.{live_below}
use Rattle.pd_wiring.proofs.BuiltLemmas.{same_links}
use Rattle.pd_boxes.proofs.KindLemmas.{inlet_count, outlet_count, blocks_count}
use Rattle.pd_boxes.proofs.ReserveLemmas.{same_grove, same_web, same_order, same_orders, longer_self, reach_kept, reach_still, reach_more, lists_for}
use Rattle.pd_boxes.proofs.reserving.reserve_box.Goals as goal

pub returns-in_err-blocks-clause-same : goal.returns-in_err-blocks-clause-same
returns-in_err-blocks-clause-same c =
    let p = c.args.patch.now in
    record {
      grove = same_grove p.grove;
      web = same_web p.web;
      names = λ class name. refl;
      links = same_links p.links;
      orders = λ d. same_order (order_in p.orders.items d);
      numbers = longer_self 0 p.numbers.items;
      values = longer_self [] (blocks_told p);
      clocks = refl;
      end = omega arith;
      rate = refl;
      present = refl;
    }

pub returns-in_err-inside-clause-same : goal.returns-in_err-inside-clause-same
returns-in_err-inside-clause-same c =
    let p = c.args.patch.now in
    record {
      grove = same_grove p.grove;
      web = same_web p.web;
      names = λ class name. refl;
      links = same_links p.links;
      orders = λ d. same_order (order_in p.orders.items d);
      numbers = longer_self 0 p.numbers.items;
      values = longer_self [] (blocks_told p);
      clocks = refl;
      end = omega arith;
      rate = refl;
      present = refl;
    }

pub returns-in_err-reserve-clause-same : goal.returns-in_err-reserve-clause-same
returns-in_err-reserve-clause-same c =
    let p = c.args.patch.now in
    record {
      grove = c.reserve.ensures.same;
      web = same_web p.web;
      names = λ class name. refl;
      links = same_links p.links;
      orders = λ d. same_order (order_in p.orders.items d);
      numbers = longer_self 0 p.numbers.items;
      values = longer_self [] (blocks_told p);
      clocks = refl;
      end = omega arith;
      rate = refl;
      present = refl;
    }

pub returns-in_err-take_one_more-clause-same : goal.returns-in_err-take_one_more-clause-same
returns-in_err-take_one_more-clause-same c =
    let p = c.args.patch.now in
    record {
      grove = c.reserve.ensures.same;
      web = same_web p.web;
      names = λ class name. refl;
      links = same_links p.links;
      orders = λ d. same_order (order_in p.orders.items d);
      numbers = longer_self 0 p.numbers.items;
      values = longer_self [] (blocks_told p);
      clocks = refl;
      end = omega arith;
      rate = refl;
      present = refl;
    }

pub returns-in_err-end-clause-same : goal.returns-in_err-end-clause-same
returns-in_err-end-clause-same c =
    let p = c.args.patch.now in
    record {
      grove = c.reserve.ensures.same;
      web = same_web p.web;
      names = λ class name. refl;
      links = same_links p.links;
      orders = λ d. same_order (order_in p.orders.items d);
      numbers = longer_self 0 p.numbers.items;
      values = longer_self [] (blocks_told p);
      clocks = refl;
      end = omega arith;
      rate = refl;
      present = refl;
    }

pub returns-in_err-ports-clause-same : goal.returns-in_err-ports-clause-same
returns-in_err-ports-clause-same c =
    let p = c.args.patch.now in
    record {
      grove = c.reserve.ensures.same;
      web = c.reserve_ports.ensures.same;
      names = λ class name. refl;
      links = same_links p.links;
      orders = λ d. same_order (order_in p.orders.items d);
      numbers = longer_self 0 p.numbers.items;
      values = longer_self [] (blocks_told p);
      clocks = refl;
      end = omega arith;
      rate = refl;
      present = refl;
    }

pub returns-in_err-reserve_owner-clause-same : goal.returns-in_err-reserve_owner-clause-same
returns-in_err-reserve_owner-clause-same c =
    let p = c.args.patch.now in
    record {
      grove = c.reserve.ensures.same;
      web = c.reserve_ports.ensures.same;
      names = c.reserve_owner.ensures.owners;
      links = same_links p.links;
      orders = λ d. same_order (order_in p.orders.items d);
      numbers = longer_self 0 p.numbers.items;
      values = longer_self [] (blocks_told p);
      clocks = refl;
      end = omega arith;
      rate = refl;
      present = refl;
    }

pub returns-in_err-reach_numbers-clause-same : goal.returns-in_err-reach_numbers-clause-same
returns-in_err-reach_numbers-clause-same c =
    let p = c.args.patch.now in
    record {
      grove = c.reserve.ensures.same;
      web = c.reserve_ports.ensures.same;
      names = c.reserve_owner.ensures.owners;
      links = same_links p.links;
      orders = λ d. same_order (order_in p.orders.items d);
      numbers = c.reach_numbers.ensures.longer;
      values = longer_self [] (blocks_told p);
      clocks = refl;
      end = omega arith;
      rate = refl;
      present = refl;
    }

pub returns-in_err-reach_values-clause-same : goal.returns-in_err-reach_values-clause-same
returns-in_err-reach_values-clause-same c =
    let p = c.args.patch.now in
    record {
      grove = c.reserve.ensures.same;
      web = c.reserve_ports.ensures.same;
      names = c.reserve_owner.ensures.owners;
      links = same_links p.links;
      orders = λ d. same_order (order_in p.orders.items d);
      numbers = c.reach_numbers.ensures.longer;
      values = c.reach_values.ensures.longer;
      clocks = refl;
      end = omega arith;
      rate = refl;
      present = refl;
    }

pub returns-in_err-reach-clause-same : goal.returns-in_err-reach-clause-same
returns-in_err-reach-clause-same c =
    let p = c.args.patch.now in
    record {
      grove = c.reserve.ensures.same;
      web = c.reserve_ports.ensures.same;
      names = c.reserve_owner.ensures.owners;
      links = same_links p.links;
      orders = λ d. same_order (order_in p.orders.items d);
      numbers = c.reach_numbers.ensures.longer;
      values = c.reach_values.ensures.longer;
      clocks = c.reach.ensures.clocks;
      end = reach_kept p.timers.end c.reach.new.self.end c.in_err-reach.ensures.err;
      rate = refl;
      present = refl;
    }

pub returns-in_err-reserve_place-clause-same : goal.returns-in_err-reserve_place-clause-same
returns-in_err-reserve_place-clause-same c =
    let p = c.args.patch.now in
    record {
      grove = c.reserve.ensures.same;
      web = c.reserve_ports.ensures.same;
      names = c.reserve_owner.ensures.owners;
      links = same_links p.links;
      orders = same_orders p.orders.items c.reserve_place.new.orders.items c.args.place.canvas c.reserve_place.ensures.same c.reserve_place.ensures.others;
      numbers = c.reach_numbers.ensures.longer;
      values = c.reach_values.ensures.longer;
      clocks = c.reach.ensures.clocks;
      end = reach_still p.timers.end c.in_ok-end.end c.reach.new.self.end c.in_ok-reach.ensures.ok;
      rate = refl;
      present = refl;
    }

pub returns-clause-same : goal.returns-clause-same
returns-clause-same c =
    let p = c.args.patch.now in
    record {
      grove = c.reserve.ensures.same;
      web = c.reserve_ports.ensures.same;
      names = c.reserve_owner.ensures.owners;
      links = same_links p.links;
      orders = same_orders p.orders.items c.reserve_place.new.orders.items c.args.place.canvas c.reserve_place.ensures.same c.reserve_place.ensures.others;
      numbers = c.reach_numbers.ensures.longer;
      values = c.reach_values.ensures.longer;
      clocks = c.reach.ensures.clocks;
      end = reach_still p.timers.end c.in_ok-end.end c.reach.new.self.end c.in_ok-reach.ensures.ok;
      rate = refl;
      present = refl;
    }

pub returns-clause-room : goal.returns-clause-room
returns-clause-room c =
    let kind = c.args.seed.row.kind in
    let list = c.ports-list.result in
    let end = c.in_ok-end.end in
    record {
      end = end;
      keys = record {
        live = λ k live. live_below c.reserve.new.self.nodes k end end c.in_ok-end.ensures.live refl live;
        next = c.in_ok-end.ensures.next;
        low = c.in_ok-end.ensures.low;
        web = c.in_ok-ports.ensures.room;
        numbers = c.in_ok-reach_numbers.ensures.reach;
        values = c.in_ok-reach_values.ensures.reach;
        clocks = reach_more c.args.patch.now.timers.end end c.reach.new.self.end c.in_ok-reach.ensures.ok;
      };
      grove = c.in_ok-reserve.ensures.place;
      few = c.in_ok-take_one_more.ensures;
      ports = lists_for c.in_ok-ports.ports c.inlets-inlet_count.result c.outlets-outlet_count.result (length (kind_jacks Inlets kind)) (length (kind_jacks Outlets kind))
          (c.inlets-inlet_count.ensures ∙ inlet_count kind list c.ports-list.ensures) (c.outlets-outlet_count.ensures ∙ outlet_count kind list c.ports-list.ensures) c.in_ok-ports.ensures.lists;
      owner = subst (λ o. HasOwnerRoom c.reserve_owner.new.names o 1) c.name_of_row-owned.ensures.value c.in_ok-reserve_owner.ensures.room;
      orders = c.in_ok-reserve_place.ensures.places;
      blocks = c.in_ok-blocks.ensures ∙ ap (λ n. replicate n silent_block) (c.block_count_of-count.ensures ∙ blocks_count kind list c.ports-list.ensures);
      inside = c.in_ok-inside.ensures;
    }
