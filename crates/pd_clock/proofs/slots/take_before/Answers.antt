use Rattle.std.proofs.Common.{◌≡◌, ◌<◌, arith, sym, refl, ◌∙◌, ap, subst, false}
use Rattle.std.specs.Prelude.{slice_set}
use Rattle.std.specs.BinaryHeap.{heap_items, heap_len}
use Rattle.pd_clock.specs.declared.slots.Slot.{Slot}
use Rattle.pd_clock.specs.Queue.{IsTaken}
use Rattle.pd_clock.specs.Slots.{AreKeys, AreTracked, IsLiveTop, key, live_clocks}
use Rattle.pd_clock.proofs.HeapLemmas.{popped, within, get_is, tracked_set, keys_set, taken_set, none_below, top_is}
use Rattle.pd_clock.proofs.IndexLemmas.{index_set}
use Rattle.pd_clock.proofs.QueueLemmas.{apart_taken, shorter_taken}
use Rattle.pd_clock.proofs.slots.take_before.Goals as goal

pub live_top-requires-clause-keys : goal.live_top-requires-clause-keys
live_top-requires-clause-keys c = subst (λ v. AreKeys v (heap_items c.args.heap.now)) (sym c.deref.ensures.value) c.requires.keys

pub returns-then-limit-time-clause-keys : goal.returns-then-limit-time-clause-keys
returns-then-limit-time-clause-keys c = subst (λ v. AreKeys v (heap_items c.live_top.new.heap)) c.deref.ensures.value c.in-Some.ensures.keys

pub returns-in-None-clause-keys : goal.returns-in-None-clause-keys
returns-in-None-clause-keys c = subst (λ v. AreKeys v (heap_items c.live_top.new.heap)) c.deref.ensures.value c.in-None.ensures.keys

pub returns-then-limit-time-clause-none : goal.returns-then-limit-time-clause-none
returns-then-limit-time-clause-none c =
    let items = heap_items c.live_top.new.heap in
    let ss = c.args.slots.now.items in
    let k = key c.in-Some.time c.in-Some.place in
    let top : IsLiveTop ss items k = subst (λ v. IsLiveTop v items k) c.deref.ensures.value c.in-Some.ensures.some in
    let tracked : AreTracked items 0 ss = subst (AreTracked items 0) c.deref.ensures.value c.in-Some.ensures.tracked in
    let keys : AreKeys ss items = subst (λ v. AreKeys v items) c.deref.ensures.value c.in-Some.ensures.keys in
    (refl, none_below items k ss c.args.limit top.greatest tracked c.if-limit-time.true)

pub index-slot-requires : goal.index-slot-requires
index-slot-requires c =
    let items = heap_items c.live_top.new.heap in
    let ss = c.args.slots.now.items in
    let k = key c.in-Some.time c.in-Some.place in
    let top : IsLiveTop ss items k = subst (λ v. IsLiveTop v items k) c.deref.ensures.value c.in-Some.ensures.some in
    let tracked : AreTracked items 0 ss = subst (AreTracked items 0) c.deref.ensures.value c.in-Some.ensures.tracked in
    let keys : AreKeys ss items = subst (λ v. AreKeys v items) c.deref.ensures.value c.in-Some.ensures.keys in
    omega (arith, within ss k.0.1 top.slot top.at)

pub index_mut-requires : goal.index_mut-requires
index_mut-requires c =
    let items = heap_items c.live_top.new.heap in
    let ss = c.args.slots.now.items in
    let k = key c.in-Some.time c.in-Some.place in
    let top : IsLiveTop ss items k = subst (λ v. IsLiveTop v items k) c.deref.ensures.value c.in-Some.ensures.some in
    let tracked : AreTracked items 0 ss = subst (AreTracked items 0) c.deref.ensures.value c.in-Some.ensures.tracked in
    let keys : AreKeys ss items = subst (λ v. AreKeys v items) c.deref.ensures.value c.in-Some.ensures.keys in
    omega (arith, within ss k.0.1 top.slot top.at)

pub returns-else-limit-time-clause-tracked : goal.returns-else-limit-time-clause-tracked
returns-else-limit-time-clause-tracked c =
    let items = heap_items c.live_top.new.heap in
    let ss = c.args.slots.now.items in
    let k = key c.in-Some.time c.in-Some.place in
    let top : IsLiveTop ss items k = subst (λ v. IsLiveTop v items k) c.deref.ensures.value c.in-Some.ensures.some in
    let tracked : AreTracked items 0 ss = subst (AreTracked items 0) c.deref.ensures.value c.in-Some.ensures.tracked in
    let keys : AreKeys ss items = subst (λ v. AreKeys v items) c.deref.ensures.value c.in-Some.ensures.keys in
    let first = top_is items k top.top in
    let some : 0 < heap_len c.live_top.new.heap = omega (arith, c.live_top.new.heap.data.ok, first.0) in
    let p =
    popped c.pop.result items (heap_items c.pop.new.self) k (c.pop.ensures.variant.1 some) c.pop.ensures.top c.pop.ensures.permutation
    c.pop.ensures.heap_order first.0 first.1 c.in-Some.ensures.order in
    let dead : Slot = record { time = c.index-slot.result.now.time; owner = c.index-slot.result.now.owner; live = false } in
    let is : c.index-slot.result.now ≡ top.slot = c.index-slot.ensures ∙ get_is ss k.0.1 top.slot c.index-slot.result.now top.at in
    tracked_set items (heap_items c.pop.new.self) k ss top.slot dead p.0 top.at refl tracked

pub returns-else-limit-time-clause-keys : goal.returns-else-limit-time-clause-keys
returns-else-limit-time-clause-keys c =
    let items = heap_items c.live_top.new.heap in
    let ss = c.args.slots.now.items in
    let k = key c.in-Some.time c.in-Some.place in
    let top : IsLiveTop ss items k = subst (λ v. IsLiveTop v items k) c.deref.ensures.value c.in-Some.ensures.some in
    let tracked : AreTracked items 0 ss = subst (AreTracked items 0) c.deref.ensures.value c.in-Some.ensures.tracked in
    let keys : AreKeys ss items = subst (λ v. AreKeys v items) c.deref.ensures.value c.in-Some.ensures.keys in
    let first = top_is items k top.top in
    let some : 0 < heap_len c.live_top.new.heap = omega (arith, c.live_top.new.heap.data.ok, first.0) in
    let p =
    popped c.pop.result items (heap_items c.pop.new.self) k (c.pop.ensures.variant.1 some) c.pop.ensures.top c.pop.ensures.permutation
    c.pop.ensures.heap_order first.0 first.1 c.in-Some.ensures.order in
    let dead : Slot = record { time = c.index-slot.result.now.time; owner = c.index-slot.result.now.owner; live = false } in
    let is : c.index-slot.result.now ≡ top.slot = c.index-slot.ensures ∙ get_is ss k.0.1 top.slot c.index-slot.result.now top.at in
    keys_set items (heap_items c.pop.new.self) k ss top.slot dead p.0 top.at (ap (λ s. s.time) is) keys

pub returns-else-limit-time-clause-some : goal.returns-else-limit-time-clause-some
returns-else-limit-time-clause-some c =
    let items = heap_items c.live_top.new.heap in
    let ss = c.args.slots.now.items in
    let k = key c.in-Some.time c.in-Some.place in
    let top : IsLiveTop ss items k = subst (λ v. IsLiveTop v items k) c.deref.ensures.value c.in-Some.ensures.some in
    let tracked : AreTracked items 0 ss = subst (AreTracked items 0) c.deref.ensures.value c.in-Some.ensures.tracked in
    let keys : AreKeys ss items = subst (λ v. AreKeys v items) c.deref.ensures.value c.in-Some.ensures.keys in
    let first = top_is items k top.top in
    let some : 0 < heap_len c.live_top.new.heap = omega (arith, c.live_top.new.heap.data.ok, first.0) in
    let p =
    popped c.pop.result items (heap_items c.pop.new.self) k (c.pop.ensures.variant.1 some) c.pop.ensures.top c.pop.ensures.permutation
    c.pop.ensures.heap_order first.0 first.1 c.in-Some.ensures.order in
    let dead : Slot = record { time = c.index-slot.result.now.time; owner = c.index-slot.result.now.owner; live = false } in
    let is : c.index-slot.result.now ≡ top.slot = c.index-slot.ensures ∙ get_is ss k.0.1 top.slot c.index-slot.result.now top.at in
    let t = taken_set items k ss top.slot dead top.greatest tracked top.at top.time top.live refl in (
      omega (arith, ap (λ s. s.time) is, top.time, c.of_units.ensures),
      subst (λ u. IsTaken (live_clocks ss) (live_clocks (slice_set ss c.in-Some.place dead)) (record { time = u; owner = c.index-slot.result.now.owner })) (sym c.of_units.ensures)
          (subst (λ s. IsTaken (live_clocks ss) (live_clocks (slice_set ss c.in-Some.place dead)) (record { time = s.time; owner = s.owner })) (sym is) t),
    )

pub returns-else-limit-time-clause-apart : goal.returns-else-limit-time-clause-apart
returns-else-limit-time-clause-apart c = λ h.
    let items = heap_items c.live_top.new.heap in
    let ss = c.args.slots.now.items in
    let k = key c.in-Some.time c.in-Some.place in
    let top : IsLiveTop ss items k = subst (λ v. IsLiveTop v items k) c.deref.ensures.value c.in-Some.ensures.some in
    let tracked : AreTracked items 0 ss = subst (AreTracked items 0) c.deref.ensures.value c.in-Some.ensures.tracked in
    let keys : AreKeys ss items = subst (λ v. AreKeys v items) c.deref.ensures.value c.in-Some.ensures.keys in
    let first = top_is items k top.top in
    let some : 0 < heap_len c.live_top.new.heap = omega (arith, c.live_top.new.heap.data.ok, first.0) in
    let p =
    popped c.pop.result items (heap_items c.pop.new.self) k (c.pop.ensures.variant.1 some) c.pop.ensures.top c.pop.ensures.permutation
    c.pop.ensures.heap_order first.0 first.1 c.in-Some.ensures.order in
    let dead : Slot = record { time = c.index-slot.result.now.time; owner = c.index-slot.result.now.owner; live = false } in
    let is : c.index-slot.result.now ≡ top.slot = c.index-slot.ensures ∙ get_is ss k.0.1 top.slot c.index-slot.result.now top.at in
    let t = taken_set items k ss top.slot dead top.greatest tracked top.at top.time top.live refl in
    apart_taken (live_clocks ss) (live_clocks (slice_set ss c.in-Some.place dead)) (record { time = top.slot.time; owner = top.slot.owner }) t h

pub returns-else-limit-time-clause-shorter : goal.returns-else-limit-time-clause-shorter
returns-else-limit-time-clause-shorter c =
    let items = heap_items c.live_top.new.heap in
    let ss = c.args.slots.now.items in
    let k = key c.in-Some.time c.in-Some.place in
    let top : IsLiveTop ss items k = subst (λ v. IsLiveTop v items k) c.deref.ensures.value c.in-Some.ensures.some in
    let tracked : AreTracked items 0 ss = subst (AreTracked items 0) c.deref.ensures.value c.in-Some.ensures.tracked in
    let keys : AreKeys ss items = subst (λ v. AreKeys v items) c.deref.ensures.value c.in-Some.ensures.keys in
    let first = top_is items k top.top in
    let some : 0 < heap_len c.live_top.new.heap = omega (arith, c.live_top.new.heap.data.ok, first.0) in
    let p =
    popped c.pop.result items (heap_items c.pop.new.self) k (c.pop.ensures.variant.1 some) c.pop.ensures.top c.pop.ensures.permutation
    c.pop.ensures.heap_order first.0 first.1 c.in-Some.ensures.order in
    let dead : Slot = record { time = c.index-slot.result.now.time; owner = c.index-slot.result.now.owner; live = false } in
    let is : c.index-slot.result.now ≡ top.slot = c.index-slot.ensures ∙ get_is ss k.0.1 top.slot c.index-slot.result.now top.at in
    let t = taken_set items k ss top.slot dead top.greatest tracked top.at top.time top.live refl in
    shorter_taken (live_clocks ss) (live_clocks (slice_set ss c.in-Some.place dead)) (record { time = top.slot.time; owner = top.slot.owner }) t

pub returns-else-limit-time-clause-places : goal.returns-else-limit-time-clause-places
returns-else-limit-time-clause-places c = λ at h.
    let items = heap_items c.live_top.new.heap in
    let ss = c.args.slots.now.items in
    let k = key c.in-Some.time c.in-Some.place in
    let top : IsLiveTop ss items k = subst (λ v. IsLiveTop v items k) c.deref.ensures.value c.in-Some.ensures.some in
    let dead : Slot = record { time = c.index-slot.result.now.time; owner = c.index-slot.result.now.owner; live = false } in
    let is : c.index-slot.result.now ≡ top.slot = c.index-slot.ensures ∙ get_is ss k.0.1 top.slot c.index-slot.result.now top.at in
    index_set at k.0.1 ss top.slot dead top.at refl (ap (λ s. s.owner) is) h
