use Rattle.std.proofs.Common.{◌≡◌, ◌<◌, ◌^◌, drop}
use Rattle.pd_num.specs.Scale.{billionths, sum_of}
use Rattle.pd_signal.specs.Samples.{zip_with}
use Rattle.pd_mix.specs.Sums.{short_sum}
use Rattle.pd_mix.proofs.sums.are_small.Given as goal

abbrev pub invariant-loop-i : goal.invariant-loop-i
invariant-loop-i l = record {
  same : l.bits < 2 ^ 60 → zip_with short_sum (drop l.i l.x) (drop l.i l.y) ≡ zip_with (sum_of billionths) (drop l.i l.x) (drop l.i l.y)
      → zip_with short_sum l.x l.y ≡ zip_with (sum_of billionths) l.x l.y;
}
