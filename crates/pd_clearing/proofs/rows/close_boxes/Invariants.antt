use Rattle.std.proofs.Common.{take}
use Rattle.pd_grove.specs.TextOrder.{keys_of_spots}
use Rattle.pd_clearing.specs.Layers.{ClosesAll}
use Rattle.pd_clearing.proofs.rows.close_boxes.Given as goal

abbrev pub invariant-loop-spot : goal.invariant-loop-spot
invariant-loop-spot l = ClosesAll l.fn.web l.web (keys_of_spots (take l.spot-index l.spots))
