use Rattle.std.proofs.Common.{◌-◌, ◌≡◌, ◌≤◌, ℕ, Some, length, slice_get}
use Rattle.pd_label.proofs.labels.Labels.place.Given as goal

abbrev pub invariant-loop-low : goal.invariant-loop-low
invariant-loop-low l = (l.high ≤ length l.keys) × ((i : ℕ) → slice_get l.keys i ≡ Some l.key → (l.low ≤ i) × (i ≤ l.high))

abbrev pub decreases-loop-low : goal.decreases-loop-low
decreases-loop-low l = l.high - l.low
