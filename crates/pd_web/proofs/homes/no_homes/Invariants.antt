use Rattle.std.proofs.Common.{◌≡◌, ℕ, None, length}
use Rattle.pd_web.specs.Homes.{home_at}
use Rattle.pd_web.proofs.homes.no_homes.Given as goal

abbrev pub invariant-loop : goal.invariant-loop
invariant-loop l = record {
  none : (j : ℕ) → home_at l.homes.items j ≡ None;
  len : length l.homes.items ≡ l.counter;
}
