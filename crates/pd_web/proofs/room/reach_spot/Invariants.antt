use Rattle.std.proofs.Common.{◌+◌, ◌-◌, vec_len}
use Rattle.pd_web.specs.Spares.{IsLonger}
use Rattle.pd_web.proofs.room.reach_spot.Given as goal

abbrev pub invariant-loop-spots : goal.invariant-loop-spots
invariant-loop-spots l = IsLonger l.fn.spots.items l.spots.items

abbrev pub decreases-loop-spots : goal.decreases-loop-spots
decreases-loop-spots l = l.number + 1 - vec_len l.spots
