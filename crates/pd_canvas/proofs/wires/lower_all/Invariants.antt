use Rattle.std.proofs.Common.{◌≡◌, ◌++◌, map, take, drop}
use Rattle.pd_canvas.specs.Wiring.{lowered_wire}
use Rattle.pd_canvas.proofs.wires.lower_all.Given as goal

abbrev pub invariant-loop-wire : goal.invariant-loop-wire
invariant-loop-wire l = l.wires ≡ map (lowered_wire l.number) (take l.wire-index l.fn.wires) ++ drop l.wire-index l.fn.wires
