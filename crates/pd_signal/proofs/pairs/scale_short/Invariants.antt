use Rattle.std.proofs.Common.{◌≡◌, ◌++◌, take, drop, map, length}
use Rattle.pd_num.specs.Scale.{billionths, product_of}
use Rattle.pd_signal.specs.Shorts.{short_of}
use Rattle.pd_signal.proofs.pairs.scale_short.Given as goal

abbrev pub invariant-loop-i : goal.invariant-loop-i
invariant-loop-i l = record {
  out : take l.i l.out ++ map (λ x. product_of billionths (short_of x) l.factor) (drop l.i l.x) ≡ map (λ x. product_of billionths (short_of x) l.factor) l.x;
  len : length l.out ≡ 64;
}
