use Rattle.std.proofs.Common.{take}
use Rattle.pd_grove.specs.TextOrder.{keys_of_spots}
use Rattle.pd_clearing.specs.Layers.{DropsOrders}
use Rattle.pd_clearing.proofs.rows.close_orders.Given as goal

abbrev pub invariant-loop-spot : goal.invariant-loop-spot
invariant-loop-spot l = DropsOrders l.grove l.fn.orders.items l.orders.items (keys_of_spots (take l.spot-index l.spots))
