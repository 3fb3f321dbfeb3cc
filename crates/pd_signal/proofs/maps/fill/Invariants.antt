use Rattle.std.proofs.Common.{◌≡◌, take, length, replicate}
use Rattle.pd_signal.proofs.maps.fill.Given as goal

abbrev pub invariant-loop-x : goal.invariant-loop-x
invariant-loop-x l = record {
  out : take l.x-index l.out ≡ replicate l.x-index l.value;
  len : length l.out ≡ 64;
}
