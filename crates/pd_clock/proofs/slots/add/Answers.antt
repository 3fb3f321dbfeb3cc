use Rattle.std.proofs.Common.{◌≡◌, ◌∷◌, length, arith, sym, refl, ◌∙◌, subst, true, ◌+◌}
use Rattle.std.specs.Prelude.{IsPermutation}
use Rattle.std.specs.BinaryHeap.{heap_items}
use Rattle.pd_clock.specs.declared.slots.Slot.{Slot}
use Rattle.pd_clock.specs.Slots.{AreKeys, key}
use Rattle.pd_clock.proofs.HeapLemmas.{tracked_more, keys_more, live_more, from_ok}
use Rattle.pd_clock.proofs.slots.add.Goals as goal

pub returns-then-is_ok-clause-tracked : goal.returns-then-is_ok-clause-tracked
returns-then-is_ok-clause-tracked c =
    let old = heap_items c.args.heap.now in
    let new = heap_items c.push.new.self in
    let q = from_ok (IsPermutation (key c.args.time c.len-place.result ∷ old) new) c.push.result (sym c.is_ok.ensures.value ∙ c.if-is_ok.true) c.push.ensures.permutation in
    let n : c.len-place.result ≡ length c.args.slots.now.items = omega (arith, c.args.slots.now.ok) in
    let p = subst (λ i. IsPermutation (key c.args.time i ∷ old) new) n q in
    let s : Slot = record { time = c.args.time; owner = c.args.owner; live = true } in
    let z : length c.args.slots.now.items ≡ 0 + length c.args.slots.now.items = omega arith in
    rw c.push_reserved.ensures.items
    (tracked_more old new 0 c.args.slots.now.items s (subst (λ i. IsPermutation (key c.args.time i ∷ old) new) z p) c.requires.tracked)

pub returns-then-is_ok-clause-keys : goal.returns-then-is_ok-clause-keys
returns-then-is_ok-clause-keys c =
    let old = heap_items c.args.heap.now in
    let new = heap_items c.push.new.self in
    let q = from_ok (IsPermutation (key c.args.time c.len-place.result ∷ old) new) c.push.result (sym c.is_ok.ensures.value ∙ c.if-is_ok.true) c.push.ensures.permutation in
    let n : c.len-place.result ≡ length c.args.slots.now.items = omega (arith, c.args.slots.now.ok) in
    let p = subst (λ i. IsPermutation (key c.args.time i ∷ old) new) n q in
    let s : Slot = record { time = c.args.time; owner = c.args.owner; live = true } in
    subst (λ v. AreKeys v new) (sym c.push_reserved.ensures.items) (keys_more old new c.args.slots.now.items s p c.requires.keys)

pub returns-then-is_ok-clause-clocks : goal.returns-then-is_ok-clause-clocks
returns-then-is_ok-clause-clocks c = rw c.push_reserved.ensures.items (live_more c.args.slots.now.items _ refl)
