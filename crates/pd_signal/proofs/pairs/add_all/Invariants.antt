use Rattle.std.proofs.Common.{◌≡◌, ◌++◌, take, drop, length}
use Rattle.pd_num.specs.Scale.{billionths, sum_of}
use Rattle.pd_signal.specs.Samples.{zip_with}
use Rattle.pd_signal.proofs.pairs.add_all.Given as goal

abbrev pub invariant-loop-i : goal.invariant-loop-i
invariant-loop-i l = record {
  out : take l.i l.out ++ zip_with (sum_of billionths) (drop l.i l.x) (drop l.i l.y) ≡ zip_with (sum_of billionths) l.x l.y;
  len : length l.out ≡ 64;
}
