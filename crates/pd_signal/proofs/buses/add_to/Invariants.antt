use Rattle.std.proofs.Common.{◌≡◌, ◌++◌, take, drop, length}
use Rattle.pd_num.specs.Scale.{billionths, sum_of}
use Rattle.pd_signal.specs.Samples.{zip_with}
use Rattle.pd_signal.proofs.buses.add_to.Given as goal

abbrev pub invariant-loop-i : goal.invariant-loop-i
invariant-loop-i l = record {
  sum : take l.i l.sum ++ zip_with (sum_of billionths) (drop l.i l.sum) (drop l.i l.x) ≡ zip_with (sum_of billionths) l.initial.sum l.x;
  len : length l.sum ≡ 64;
}
