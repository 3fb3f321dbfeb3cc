use Rattle.std.proofs.Common.{◌≡◌, ◌<◌, length, arith, sym, refl, ◌∙◌, ap, false, true}
use Rattle.std.specs.BinaryHeap.{heap_items, heap_len}
use Rattle.pd_clock.proofs.HeapLemmas.{top_in, top_get, popped, within, get_is, tracked_stale, keys_stale, none_left, fewer_pop}
use Rattle.pd_clock.proofs.slots.live_top.Goals as goal

pub offset_bounds-slots-place : goal.offset_bounds-slots-place
offset_bounds-slots-place c =
    let k = c.in-Some.top.now in
    let v : 0 < heap_len c.loop-top.heap = c.in-Some.ensures.variant.0 refl in
    let some : 0 < length (heap_items c.loop-top.heap) = omega (arith, c.loop-top.heap.data.ok) in
    let at = c.loop-top.invariant.keys k (top_in (heap_items c.loop-top.heap) k some c.in-Some.ensures.lookup) in
    let get = get_is c.args.slots.now k.0.1 at.0 (record { time = 0; owner = 0; live = false }) at.1 in
    let w = within c.args.slots.now k.0.1 at.0 at.1 in
    omega arith

pub bounds-slots-place : goal.bounds-slots-place
bounds-slots-place c =
    let k = c.in-Some.top.now in
    let v : 0 < heap_len c.loop-top.heap = c.in-Some.ensures.variant.0 refl in
    let some : 0 < length (heap_items c.loop-top.heap) = omega (arith, c.loop-top.heap.data.ok) in
    let at = c.loop-top.invariant.keys k (top_in (heap_items c.loop-top.heap) k some c.in-Some.ensures.lookup) in
    let get = get_is c.args.slots.now k.0.1 at.0 (record { time = 0; owner = 0; live = false }) at.1 in
    within c.args.slots.now k.0.1 at.0 at.1

pub returns-then-slots-place-clause-some : goal.returns-then-slots-place-clause-some
returns-then-slots-place-clause-some c =
    let k = c.in-Some.top.now in
    let v : 0 < heap_len c.loop-top.heap = c.in-Some.ensures.variant.0 refl in
    let some : 0 < length (heap_items c.loop-top.heap) = omega (arith, c.loop-top.heap.data.ok) in
    let at = c.loop-top.invariant.keys k (top_in (heap_items c.loop-top.heap) k some c.in-Some.ensures.lookup) in
    let get = get_is c.args.slots.now k.0.1 at.0 (record { time = 0; owner = 0; live = false }) at.1 in
    record {
      top = top_get (heap_items c.loop-top.heap) k some c.in-Some.ensures.lookup;
      greatest = c.in-Some.ensures.greatest c.loop-top.invariant.ordered;
      slot = at.0;
      at = at.1;
      time = at.2;
      live = ap (λ s. s.live) (sym get) ∙ c.if-slots-place.true;
    }

pub loop-top-preserved : goal.loop-top-preserved
loop-top-preserved c =
    let k = c.in-Some.top.now in
    let v : 0 < heap_len c.loop-top.heap = c.in-Some.ensures.variant.0 refl in
    let some : 0 < length (heap_items c.loop-top.heap) = omega (arith, c.loop-top.heap.data.ok) in
    let at = c.loop-top.invariant.keys k (top_in (heap_items c.loop-top.heap) k some c.in-Some.ensures.lookup) in
    let get = get_is c.args.slots.now k.0.1 at.0 (record { time = 0; owner = 0; live = false }) at.1 in
    let p =
    popped c.pop.result (heap_items c.loop-top.heap) (heap_items c.pop.new.self) k (c.pop.ensures.variant.1 v) c.pop.ensures.top
    c.pop.ensures.permutation c.pop.ensures.heap_order some c.in-Some.ensures.lookup c.loop-top.invariant.ordered in
    record {
      ordered = p.1;
      tracked =
          tracked_stale (heap_items c.loop-top.heap) (heap_items c.pop.new.self) k c.args.slots.now at.0 p.0 at.1
          (ap (λ s. s.live) (sym get) ∙ c.if-slots-place.false) c.loop-top.invariant.tracked;
      keys = keys_stale (heap_items c.loop-top.heap) (heap_items c.pop.new.self) k c.args.slots.now p.0 c.loop-top.invariant.keys;
      fewer = omega (arith, fewer_pop c.pop.result (heap_len c.loop-top.heap) (heap_len c.pop.new.self) (c.pop.ensures.variant.1 v) c.pop.ensures.len);
      capacity = c.pop.ensures.capacity ∙ c.loop-top.invariant.capacity;
    }

pub returns-clause-none : goal.returns-clause-none
returns-clause-none c =
    let none : 0 < length (heap_items c.loop-top.heap) → ⊥ = λ h.
    (let e : false ≡ true = c.in_default.ensures.variant.1 (omega (arith, c.loop-top.heap.data.ok)) in cc) in
    none_left (heap_items c.loop-top.heap) c.args.slots.now none c.loop-top.invariant.tracked
