use Rattle.std.proofs.Common.{◌≡◌, map, ◌++◌, take, drop, length}
use Rattle.pd_signal.specs.Samples.{wrapped}
use Rattle.pd_signal.proofs.maps.wrap_all.Given as goal

abbrev pub invariant-loop-i : goal.invariant-loop-i
invariant-loop-i l = record {
  out : take l.i l.out ++ map wrapped (drop l.i l.x) ≡ map wrapped l.x;
  len : length l.out ≡ 64;
}
