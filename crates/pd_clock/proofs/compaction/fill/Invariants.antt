use Rattle.std.proofs.Common.{◌≡◌, ◌≤◌, take}
use Rattle.std.specs.BinaryHeap.{heap_items, heap_len, heap_capacity, IsHeap}
use Rattle.pd_clock.specs.Slots.{order, AreTracked, AreKeys}
use Rattle.pd_clock.proofs.compaction.fill.Given as goal

abbrev pub invariant-loop-place : goal.invariant-loop-place
invariant-loop-place l = record {
  ordered : IsHeap order (heap_items l.heap);
  tracked : AreTracked (heap_items l.heap) 0 (take l.place l.slots);
  keys : AreKeys l.slots (heap_items l.heap);
  len : heap_len l.heap ≡ l.place;
  capacity : heap_capacity l.initial.heap ≤ heap_capacity l.heap;
}
