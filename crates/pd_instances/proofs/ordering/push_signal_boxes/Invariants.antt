use Rattle.std.proofs.Common.{◌≡◌, ◌≤◌, take, vec_capacity, vec_len}
use Rattle.pd_patch.specs.Orders.{signal_among}
use Rattle.pd_instances.proofs.ordering.push_signal_boxes.Given as goal

abbrev pub invariant-loop-key : goal.invariant-loop-key
invariant-loop-key l = record {
  boxes : l.signal.items ≡ signal_among l.grove (take l.key-index l.keys);
  len : vec_len l.signal ≤ l.key-index;
  room : vec_capacity l.signal ≡ vec_capacity l.fn.signal;
}
