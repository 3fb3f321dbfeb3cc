use Rattle.std.proofs.Common.{◌≡◌, map, take, length}
use Rattle.std.specs.List.{range_with_len}
use Rattle.pd_signal.specs.Ramps.{slope_sample}
use Rattle.pd_signal.proofs.ramps.ramp_values.Given as goal

abbrev pub invariant-loop-i : goal.invariant-loop-i
invariant-loop-i l = record {
  out : take l.i l.out ≡ map (slope_sample l.slope) (range_with_len l.slope.at l.i);
  len : length l.out ≡ 64;
}
