use Rattle.std.proofs.Common.{◌≡◌, ℕ, ◌≤◌, ◌<◌, ◌+◌, ◌*◌, pos, drop, get_or, length, IfSome}
use Rattle.pd_kind.specs.Books.{IsShort}
use Rattle.pd_vline.specs.Taken.{taken, value_at}
use Rattle.pd_vline.proofs.passing.fill.Given as goal

abbrev pub invariant-loop-i : goal.invariant-loop-i
invariant-loop-i l = record {
  samples : (k : ℕ) → k < l.i → get_or l.out k (pos 0) ≡ value_at l.ramps.base l.ramps.ramps (l.start + k * 1000000000);
  taken : (t : ℕ) → l.start + l.i * 1000000000 ≤ t → taken t l.place.base (drop l.place.count l.ramps.ramps) ≡ taken t l.ramps.base l.ramps.ramps;
  short : IfSome l.place.base (λ b. IsShort b.0);
  within : l.place.count ≤ length l.ramps.ramps;
}
