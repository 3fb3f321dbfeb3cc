use Rattle.std.proofs.Common.{◌≡◌, ◌≤◌, ◌+◌, ◌-◌, ℕ, Some, slice_get, length, vec_len}
use Rattle.pd_web.specs.declared.sockets.Spot.{Spot}
use Rattle.pd_web.proofs.ends.put_spot.Given as goal

abbrev pub invariant-loop-spots : goal.invariant-loop-spots
invariant-loop-spots l = record {
  kept : (e : ℕ) (s : Spot) → slice_get l.fn.spots.items e ≡ Some s → slice_get l.spots.items e ≡ Some s;
  longer : length l.fn.spots.items ≤ length l.spots.items;
}

abbrev pub decreases-loop-spots : goal.decreases-loop-spots
decreases-loop-spots l = l.number + 1 - vec_len l.spots
