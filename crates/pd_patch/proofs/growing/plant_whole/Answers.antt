use Rattle.std.proofs.Common.{refl, subst}
use Rattle.slab.specs.Slab.{get}
use Rattle.pd_grove.specs.States.{NodesFresh}
use Rattle.pd_grove.specs.declared.ports.Side.TheVariants.{Outlets}
use Rattle.pd_patch.proofs.BlockLemmas.{live_below, no_others, small_keys}
use Rattle.pd_patch.proofs.WiredLemmas.{own_canvas}
use Rattle.pd_patch.proofs.growing.plant_whole.Goals as goal

pub returns-clause-fresh : goal.returns-clause-fresh
returns-clause-fresh c =
    let nodes = c.in_ok-grove.grove.nodes in
    record {
      own = c.in_ok-grove.ensures.own;
      keys = λ k live. small_keys k c.in_ok-box_end.field-0 (live_below nodes k c.in_ok-box_end.field-0 c.in_ok-box_end.field-0 c.in_ok-box_end.ensures.above refl live) c.in_ok-box_end.ensures.small;
      wires = c.in_ok-web.ensures.laid;
      fed = c.in_ok-web.ensures.fed;
      owners = λ class name. c.in_ok-names.ensures.owners class name;
      apart = c.in_ok-names.ensures.apart;
      linked = c.in_ok-links.ensures;
      orders = c.in_ok-orders.ensures;
      numbers = λ k. c.in_ok-numbers.ensures k (own_canvas c.in_ok-grove.grove k c.in_ok-grove.ensures.own);
      clocks = c.in_ok-timers.ensures.clocks;
      room = λ k live. live_below nodes k c.in_ok-box_end.field-0 c.in_ok-timers.timers.end c.in_ok-box_end.ensures.above c.in_ok-timers.ensures.end live;
      states = subst (λ n. NodesFresh c.args.rate n (get nodes)) c.of_units.ensures c.in_ok-grove.ensures.fresh;
      blocks = c.in_ok-values.ensures.silent;
      no_others = no_others (λ b. b.items) c.in_ok-grove.grove c.in_ok-web.web c.in_ok-values.values.items (c.in_ok-web.ensures.laid.ports Outlets) c.in_ok-values.ensures.rows;
      same_rate = refl;
    }
