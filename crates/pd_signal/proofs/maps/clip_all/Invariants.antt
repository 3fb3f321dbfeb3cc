use Rattle.std.proofs.Common.{◌≡◌, map, ◌++◌, take, drop, length}
use Rattle.pd_signal.specs.Samples.{clipped}
use Rattle.pd_signal.proofs.maps.clip_all.Given as goal

abbrev pub invariant-loop-i : goal.invariant-loop-i
invariant-loop-i l = record {
  out : take l.i l.out ++ map (clipped l.low l.high) (drop l.i l.x) ≡ map (clipped l.low l.high) l.x;
  len : length l.out ≡ 64;
}
