use Rattle.std.proofs.Common.{◌-◌, ◌≡◌, ◌≤◌, ◌++◌, ℕ, List, length}
use Rattle.std.specs.List.{AllByRecursion}
use Rattle.pd_grove.specs.TextOrder.{keys_in_order}
use Rattle.pd_owning.specs.Bound.{Precedes, IsAhead}
use Rattle.pd_owning.proofs.bound.place_among.Given as goal

abbrev pub invariant-loop-low : goal.invariant-loop-low
invariant-loop-low l = record {
  low : l.low ≤ l.high;
  high : l.high ≤ length l.owners;
  place : (before behind : List ℕ) → l.owners ≡ before ++ behind → AllByRecursion (IsAhead l.grove l.node) before →
      AllByRecursion (Precedes (keys_in_order l.grove) l.node) behind → (l.low ≤ length before) × (length before ≤ l.high);
}

abbrev pub decreases-loop-low : goal.decreases-loop-low
decreases-loop-low l = l.high - l.low
