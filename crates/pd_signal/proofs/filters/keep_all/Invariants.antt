use Rattle.std.proofs.Common.{◌≡◌, ◌++◌, take, drop, length}
use Rattle.pd_signal.specs.Samples.{last_of, kept_values}
use Rattle.pd_signal.proofs.filters.keep_all.Given as goal

abbrev pub invariant-loop-i : goal.invariant-loop-i
invariant-loop-i l = record {
  out : take l.i l.out ++ kept_values l.before l.value (drop l.i l.x) (drop l.i l.y) ≡ kept_values l.initial.before l.initial.value l.x l.y;
  last : last_of l.value (kept_values l.before l.value (drop l.i l.x) (drop l.i l.y)) ≡ last_of l.initial.value (kept_values l.initial.before l.initial.value l.x l.y);
  len : length l.out ≡ 64;
}
