use Rattle.std.proofs.Common.{take}
use Rattle.std.specs.List.{AllZip}
use Rattle.pd_tree.specs.Trees.{stands_in}
use Rattle.pd_instances.specs.Needs.{insides_of, IsOrderRoom}
use Rattle.pd_instances.proofs.rooms.order_rooms.Given as goal

abbrev pub invariant-loop-row : goal.invariant-loop-row
invariant-loop-row l = AllZip IsOrderRoom (insides_of (stands_in (take l.row-index l.rows))) l.orders.items
