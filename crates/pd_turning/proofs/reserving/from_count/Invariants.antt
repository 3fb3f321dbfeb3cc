use Rattle.std.proofs.Common.{◌≡◌, take}
use Rattle.pd_turning.specs.Room.{count_from}
use Rattle.pd_turning.proofs.reserving.from_count.Given as goal

abbrev pub invariant-loop-wire : goal.invariant-loop-wire
invariant-loop-wire l = l.count ≡ count_from (take l.wire-index l.wires) l.node
