use Rattle.std.proofs.Common.{◌-◌, vec_len}
use Rattle.pd_web.specs.Spares.{SameHomes}
use Rattle.pd_web.proofs.room.lengthen_homes.Given as goal

abbrev pub invariant-loop-homes : goal.invariant-loop-homes
invariant-loop-homes l = SameHomes l.fn.homes.items l.homes.items

abbrev pub decreases-loop-homes : goal.decreases-loop-homes
decreases-loop-homes l = l.keys - vec_len l.homes
