use Rattle.std.proofs.Common.{map, take}
use Rattle.std.specs.List.{AllZip}
use Rattle.pd_tree.specs.Trees.{stands_in}
use Rattle.pd_instances.specs.Needs.{insides_of, AreLinkRooms}
use Rattle.pd_instances.proofs.rooms.link_rooms.Given as goal

abbrev pub invariant-loop-row : goal.invariant-loop-row
invariant-loop-row l = AllZip AreLinkRooms (insides_of (stands_in (take l.row-index l.rows))) (map (λ v. v.items) l.rooms.items)
