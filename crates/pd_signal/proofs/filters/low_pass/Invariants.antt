use Rattle.std.proofs.Common.{◌≡◌, ◌++◌, take, drop, length}
use Rattle.pd_signal.specs.Samples.{last_of, low_passed}
use Rattle.pd_signal.proofs.filters.low_pass.Given as goal

abbrev pub invariant-loop-i : goal.invariant-loop-i
invariant-loop-i l = record {
  out : take l.i l.out ++ low_passed l.factor l.present (drop l.i l.x) ≡ low_passed l.factor l.initial.present l.x;
  last : last_of l.present (low_passed l.factor l.present (drop l.i l.x)) ≡ last_of l.initial.present (low_passed l.factor l.initial.present l.x);
  len : length l.out ≡ 64;
}
