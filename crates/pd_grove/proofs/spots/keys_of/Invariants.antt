use Rattle.std.proofs.Common.{◌≡◌, take}
use Rattle.pd_grove.specs.TextOrder.{keys_of_spots}
use Rattle.pd_grove.proofs.spots.keys_of.Given as goal

abbrev pub invariant-loop-spot : goal.invariant-loop-spot
invariant-loop-spot l = l.keys.items ≡ keys_of_spots (take l.spot-index l.spots)
