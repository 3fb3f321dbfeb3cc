use Rattle.std.proofs.Common.{◌≡◌, take, vec_capacity, vec_len}
use Rattle.pd_grove.specs.TextOrder.{keys_of_spots}
use Rattle.pd_instances.proofs.putting.list_keys.Given as goal

abbrev pub invariant-loop-spot : goal.invariant-loop-spot
invariant-loop-spot l = record {
  keys : l.keys.items ≡ keys_of_spots (take l.spot-index l.spots);
  len : vec_len l.keys ≡ l.spot-index;
  room : vec_capacity l.keys ≡ vec_capacity l.fn.keys;
}
