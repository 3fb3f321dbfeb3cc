use Rattle.std.proofs.Common.{◌≡◌, ◌≤◌, ◌-◌, drop, length, IfSome}
use Rattle.pd_kind.specs.Books.{IsShort}
use Rattle.pd_vline.specs.Taken.{taken}
use Rattle.pd_vline.proofs.passing.advance.Given as goal

abbrev pub invariant-loop-count : goal.invariant-loop-count
invariant-loop-count l = record {
  taken : taken l.before l.base (drop l.count l.ramps) ≡ taken l.before l.fn.place.base (drop l.fn.place.count l.ramps);
  short : IfSome l.base (λ b. IsShort b.0);
  within : l.count ≤ length l.ramps;
}

abbrev pub decreases-loop-count : goal.decreases-loop-count
decreases-loop-count l = length l.ramps - l.count
