use Rattle.std.proofs.Common.{◌≡◌, map, take}
use Rattle.pd_web.specs.Jacks.{spot_jack}
use Rattle.pd_web.proofs.jacks.spot_jacks.Given as goal

abbrev pub invariant-loop-spot : goal.invariant-loop-spot
invariant-loop-spot l = l.jacks.items ≡ map spot_jack (take l.spot-index l.spots)
