use Rattle.std.proofs.Common.{◌≡◌, ◌++◌, take, drop, length}
use Rattle.pd_signal.specs.Samples.{zip_with}
use Rattle.pd_mix.specs.Sums.{short_sum}
use Rattle.pd_mix.proofs.sums.add_small.Given as goal

abbrev pub invariant-loop-i : goal.invariant-loop-i
invariant-loop-i l = record {
  sum : take l.i l.out ++ zip_with short_sum (drop l.i l.out) (drop l.i l.block) ≡ zip_with short_sum l.initial.out l.block;
  len : length l.out ≡ 64;
}
