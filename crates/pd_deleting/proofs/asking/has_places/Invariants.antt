use Rattle.std.proofs.Common.{ℕ, ◌<◌, length, IsSome}
use Rattle.slab.specs.Slab.{get}
use Rattle.pd_deleting.proofs.asking.has_places.Given as goal

abbrev pub invariant-loop-key : goal.invariant-loop-key
invariant-loop-key l = (k : ℕ) → k < l.key → IsSome (get l.patch.grove.nodes k) → k < length l.patch.values.items
