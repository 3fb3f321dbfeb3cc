use Rattle.std.proofs.Common.{◌<◌, length, arith, sym, ap, subst}
use Rattle.std.specs.BinaryHeap.{heap_items}
use Rattle.pd_clock.specs.Index.{IsIndexOf, place_of}
use Rattle.pd_clock.specs.Queue.{AreApart, without}
use Rattle.pd_clock.specs.Slots.{AreTracked, AreKeys, live_clocks}
use Rattle.pd_clock.proofs.HeapLemmas.{tracked_dead, keys_dead}
use Rattle.pd_clock.proofs.IndexLemmas.{index_dead}
use Rattle.pd_clock.proofs.QueueLemmas.{apart_without}
use Rattle.pd_clock.proofs.clocks.Clocks.drop_box.Goals as goal

pub invariant_of-self : goal.invariant_of-self
invariant_of-self c =
    let old = c.self.inside.slots.items in
    let keys = heap_items c.self.inside.heap in
    let at = place_of c.self.inside.places in
    let room : length (without c.args.owner (live_clocks old)) < c.self.inside.room =
    subst (λ v. length (without c.args.owner v.clocks) < v.room) (sym c.self.view_is) c.requires in
    let n = ap length c.kill_owner.ensures.clocks in
    record {
      apart = subst AreApart (sym c.kill_owner.ensures.clocks) (apart_without c.args.owner (live_clocks old) c.self.invariant.apart);
      few = omega arith;
      space = omega arith;
      ordered = c.self.invariant.ordered;
      tracked = subst (AreTracked keys 0) (sym c.kill_owner.ensures.items) (tracked_dead keys c.args.owner 0 old c.self.invariant.tracked);
      keys = subst (λ v. AreKeys v keys) (sym c.kill_owner.ensures.items) (keys_dead keys c.args.owner old c.self.invariant.keys);
      fits = omega arith;
      caps = omega arith;
      places = subst (IsIndexOf at) (sym c.kill_owner.ensures.items) (index_dead at c.args.owner old c.self.invariant.places);
      places_fit = omega (arith, c.self.invariant.places_fit, c.kill_owner.ensures.len);
      places_caps = omega (arith, c.self.invariant.places_caps, c.kill_owner.ensures.capacity);
    }
