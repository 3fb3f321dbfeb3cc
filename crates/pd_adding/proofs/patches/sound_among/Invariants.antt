use Rattle.std.proofs.Common.{◌≡◌, ◌-◌, ◌^◌, min, map, take}
use Rattle.slab.specs.Slab.{get}
use Rattle.pd_grove.specs.TextOrder.{cell_under}
use Rattle.pd_adding.specs.Counted.{sound_among}
use Rattle.pd_adding.proofs.patches.sound_among.Given as goal

abbrev pub invariant-loop-key : goal.invariant-loop-key
invariant-loop-key l = l.sound ≡ min (sound_among l.rate (map (cell_under (get l.grove.nodes)) (take l.key-index l.boxes))) (2 ^ 64 - 1)
