use Rattle.std.proofs.Common.{◌≡◌, ◌<◌, ◌^◌, drop, map}
use Rattle.pd_signal.specs.Shorts.{short_of}
use Rattle.pd_signal.proofs.pairs.are_short.Given as goal

abbrev pub invariant-loop-i : goal.invariant-loop-i
invariant-loop-i l = record {
  same : l.bits < 2 ^ 32 → map short_of (drop l.i l.x) ≡ drop l.i l.x → map short_of l.x ≡ l.x;
}
