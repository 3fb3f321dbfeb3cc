use Rattle.std.proofs.Common.{map, take}
use Rattle.pd_grove.specs.TextOrder.{keys_of_spots}
use Rattle.pd_clearing.specs.Clearing.{DropsAll}
use Rattle.pd_clearing.proofs.rows.drop_all.Given as goal

abbrev pub invariant-loop-spot : goal.invariant-loop-spot
invariant-loop-spot l = DropsAll (map (λ b. b.items) l.fn.values.items) (map (λ b. b.items) l.values.items) (keys_of_spots (take l.spot-index l.spots))
