use Rattle.std.proofs.Common.{length, arith, sym, ap, subst}
use Rattle.std.specs.BinaryHeap.{heap_items, IsHeap}
use Rattle.pd_clock.specs.Queue.{AreApart}
use Rattle.pd_clock.specs.Slots.{AreTracked, AreKeys, live_clocks, order}
use Rattle.pd_clock.proofs.IndexLemmas.{index_moved}
use Rattle.pd_clock.proofs.clocks.Clocks.reserve_one.Goals as goal

pub invariant_of-self : goal.invariant_of-self
invariant_of-self c =
    let items = c.make_space.ensures.items in
    let keys = c.make_space.ensures.keys in
    let l = ap (λ v. length (live_clocks v)) items in
    let n = ap length c.make_space.ensures.entries in
    record {
      apart = subst (λ v. AreApart (live_clocks v)) (sym items) c.self.invariant.apart;
      few = omega (arith, l, c.self.invariant.few);
      space = omega (arith, c.self.invariant.space, c.make_space.ensures.capacity);
      ordered = subst (IsHeap order) (sym keys) c.self.invariant.ordered;
      tracked =
          subst (λ k. AreTracked k 0 c.make_space.new.slots.items) (sym keys)
          (subst (AreTracked (heap_items c.self.inside.heap) 0) (sym items) c.self.invariant.tracked);
      keys =
          subst (λ k. AreKeys c.make_space.new.slots.items k) (sym keys)
          (subst (λ v. AreKeys v (heap_items c.self.inside.heap)) (sym items) c.self.invariant.keys);
      fits = omega (arith, c.self.invariant.fits, c.make_space.ensures.len, c.make_space.ensures.keys_len);
      caps = c.make_space.ensures.caps;
      places =
          index_moved c.self.inside.places c.make_space.new.places c.self.inside.slots.items c.make_space.new.slots.items c.make_space.ensures.entries
          items c.self.invariant.places;
      places_fit = omega (arith, n, c.self.invariant.places_fit, c.make_space.ensures.len);
      places_caps = c.make_space.ensures.places_caps;
    }

pub invariant_of-self-2 : goal.invariant_of-self-2
invariant_of-self-2 c =
    let items = c.make_space.ensures.items in
    let keys = c.make_space.ensures.keys in
    let l = ap (λ v. length (live_clocks v)) items in
    let n = ap length c.make_space.ensures.entries in
    record {
      apart = subst (λ v. AreApart (live_clocks v)) (sym items) c.self.invariant.apart;
      few = omega (arith, l, c.self.invariant.few);
      space = omega (arith, c.in_ok-make_space.ensures.ok);
      ordered = subst (IsHeap order) (sym keys) c.self.invariant.ordered;
      tracked =
          subst (λ k. AreTracked k 0 c.make_space.new.slots.items) (sym keys)
          (subst (AreTracked (heap_items c.self.inside.heap) 0) (sym items) c.self.invariant.tracked);
      keys =
          subst (λ k. AreKeys c.make_space.new.slots.items k) (sym keys)
          (subst (λ v. AreKeys v (heap_items c.self.inside.heap)) (sym items) c.self.invariant.keys);
      fits = omega (arith, c.self.invariant.fits, c.make_space.ensures.len, c.make_space.ensures.keys_len);
      caps = c.make_space.ensures.caps;
      places =
          index_moved c.self.inside.places c.make_space.new.places c.self.inside.slots.items c.make_space.new.slots.items c.make_space.ensures.entries
          items c.self.invariant.places;
      places_fit = omega (arith, n, c.self.invariant.places_fit, c.make_space.ensures.len);
      places_caps = c.make_space.ensures.places_caps;
    }
