use Rattle.std.proofs.Common.{◌≡◌, ◌++◌, take, drop, length}
use Rattle.pd_num.specs.Scale.{billionths, sum_of}
use Rattle.pd_signal.specs.Samples.{zip_with}
use Rattle.pd_mix.proofs.sums.add_limited.Given as goal

abbrev pub invariant-loop-i : goal.invariant-loop-i
invariant-loop-i l = record {
  sum : take l.i l.out ++ zip_with (sum_of billionths) (drop l.i l.out) (drop l.i l.block) ≡ zip_with (sum_of billionths) l.initial.out l.block;
  len : length l.out ≡ 64;
}
