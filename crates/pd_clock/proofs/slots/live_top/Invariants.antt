use Rattle.std.proofs.Common.{◌≡◌, ◌≤◌}
use Rattle.std.specs.BinaryHeap.{heap_items, heap_len, heap_capacity, IsHeap}
use Rattle.pd_clock.specs.Slots.{order, AreTracked, AreKeys}
use Rattle.pd_clock.proofs.slots.live_top.Given as goal

abbrev pub invariant-loop-top : goal.invariant-loop-top
invariant-loop-top l = record {
  ordered : IsHeap order (heap_items l.heap);
  tracked : AreTracked (heap_items l.heap) 0 l.slots;
  keys : AreKeys l.slots (heap_items l.heap);
  fewer : heap_len l.heap ≤ heap_len l.initial.heap;
  capacity : heap_capacity l.heap ≡ heap_capacity l.initial.heap;
}

abbrev pub decreases-loop-top : goal.decreases-loop-top
decreases-loop-top l = heap_len l.heap
