use Rattle.std.proofs.Common.{◌≡◌, ◌-◌, ◌^◌, min, map, take}
use Rattle.slab.specs.Slab.{get}
use Rattle.pd_grove.specs.TextOrder.{cell_under, keys_of_spots}
use Rattle.pd_adding.specs.Counted.{sound_among}
use Rattle.pd_deleting.proofs.deleting.values_of.Given as goal

abbrev pub invariant-loop-spot : goal.invariant-loop-spot
invariant-loop-spot l = l.values ≡ min (sound_among l.rate (map (cell_under (get l.grove.nodes)) (keys_of_spots (take l.spot-index l.part)))) (2 ^ 64 - 1)
