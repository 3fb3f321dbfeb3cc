use Rattle.std.proofs.Common.{[], refl, arith}
use Rattle.pd_patch.specs.Telling.{order_in}
use Rattle.pd_patch.specs.Values.{blocks_told}
use Rattle.pd_boxes.proofs.ReserveLemmas.{longer_self, reach_kept, reach_still, same_grove, same_order}
use Rattle.pd_instances.proofs.ListLemmas.{orders_kept}
use Rattle.pd_instances.proofs.reserving.reach_keys.Goals as goal

pub returns-in_err-reach-clause-same : goal.returns-in_err-reach-clause-same
returns-in_err-reach-clause-same c =
    let p = c.args.patch.now in
    record {
      grove = same_grove p.grove;
      web = c.reserve.ensures.same;
      names = λ class name. refl;
      links = c.reach.ensures.same;
      orders = λ d. same_order (order_in p.orders.items d);
      numbers = longer_self 0 p.numbers.items;
      values = longer_self [] (blocks_told p);
      clocks = refl;
      end = omega arith;
      rate = refl;
      present = refl;
    }

pub returns-in_err-reach_numbers-clause-same : goal.returns-in_err-reach_numbers-clause-same
returns-in_err-reach_numbers-clause-same c =
    let p = c.args.patch.now in
    record {
      grove = same_grove p.grove;
      web = c.reserve.ensures.same;
      names = λ class name. refl;
      links = c.reach.ensures.same;
      orders = λ d. same_order (order_in p.orders.items d);
      numbers = c.reach_numbers.ensures.longer;
      values = longer_self [] (blocks_told p);
      clocks = refl;
      end = omega arith;
      rate = refl;
      present = refl;
    }

pub returns-in_err-reach_values-clause-same : goal.returns-in_err-reach_values-clause-same
returns-in_err-reach_values-clause-same c =
    let p = c.args.patch.now in
    record {
      grove = same_grove p.grove;
      web = c.reserve.ensures.same;
      names = λ class name. refl;
      links = c.reach.ensures.same;
      orders = λ d. same_order (order_in p.orders.items d);
      numbers = c.reach_numbers.ensures.longer;
      values = c.reach_values.ensures.longer;
      clocks = refl;
      end = omega arith;
      rate = refl;
      present = refl;
    }

pub returns-in_err-reach-2-clause-same : goal.returns-in_err-reach-2-clause-same
returns-in_err-reach-2-clause-same c =
    let p = c.args.patch.now in
    record {
      grove = same_grove p.grove;
      web = c.reserve.ensures.same;
      names = λ class name. refl;
      links = c.reach.ensures.same;
      orders = λ d. same_order (order_in p.orders.items d);
      numbers = c.reach_numbers.ensures.longer;
      values = c.reach_values.ensures.longer;
      clocks = c.reach-2.ensures.clocks;
      end = reach_kept p.timers.end c.reach-2.new.self.end c.in_err-reach-2.ensures.err;
      rate = refl;
      present = refl;
    }

pub returns-clause-same : goal.returns-clause-same
returns-clause-same c =
    let p = c.args.patch.now in
    record {
      grove = same_grove p.grove;
      web = c.reserve.ensures.same;
      names = λ class name. refl;
      links = c.reach.ensures.same;
      orders = orders_kept p.orders.items c.reserve_orders.new.orders.items c.reserve_orders.ensures.same;
      numbers = c.reach_numbers.ensures.longer;
      values = c.reach_values.ensures.longer;
      clocks = c.reach-2.ensures.clocks;
      end = reach_still p.timers.end c.in-Ok.end c.reach-2.new.self.end c.in_ok-reach-2.ensures.ok;
      rate = refl;
      present = refl;
    }
