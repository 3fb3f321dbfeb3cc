use Rattle.std.proofs.Common.{◌≡◌, map, ◌++◌, take, drop, length}
use Rattle.pd_signal.specs.Samples.{magnitude_of}
use Rattle.pd_signal.proofs.maps.magnitudes.Given as goal

abbrev pub invariant-loop-i : goal.invariant-loop-i
invariant-loop-i l = record {
  out : take l.i l.out ++ map magnitude_of (drop l.i l.x) ≡ map magnitude_of l.x;
  len : length l.out ≡ 64;
}
