use Rattle.std.proofs.Common.{arith, get_or, false}
use Rattle.std.specs.BinaryHeap.{heap_items}
use Rattle.pd_clock.specs.declared.slots.Slot.{Slot}
use Rattle.pd_clock.proofs.HeapLemmas.{tracked_next, keys_push, get_some}
use Rattle.pd_clock.proofs.compaction.fill.Goals as goal

pub loop-place-preserved : goal.loop-place-preserved
loop-place-preserved c =
    let ss = c.args.slots.now in
    let i = c.loop-place.place in
    let d : Slot = record { time = 0; owner = 0; live = false } in
    let old = heap_items c.loop-place.heap in
    let new = heap_items c.push_key.new.heap in
    record {
      ordered = c.push_key.ensures.order c.loop-place.invariant.ordered;
      tracked = tracked_next old new ss i d c.loop-place-test.true c.push_key.ensures.permutation c.loop-place.invariant.tracked;
      keys = keys_push old new ss i (get_or ss i d) c.push_key.ensures.permutation (get_some ss i d c.loop-place-test.true) c.loop-place.invariant.keys;
      len = omega (arith, c.push_key.ensures.len);
      capacity = omega (arith, c.push_key.ensures.capacity);
    }
