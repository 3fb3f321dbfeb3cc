use Rattle.std.proofs.Common.{◌≡◌, take}
use Rattle.pd_tree.specs.Trees.{stands_in}
use Rattle.pd_instances.specs.Needs.{insides_of, wires_all}
use Rattle.pd_instances.proofs.rooms.wire_count.Given as goal

abbrev pub invariant-loop-row : goal.invariant-loop-row
invariant-loop-row l = l.count ≡ wires_all (insides_of (stands_in (take l.row-index l.rows)))
