use Rattle.std.proofs.Common.{◌≡◌, ◌++◌, map, take, drop}
use Rattle.pd_canvas.specs.Wiring.{raised_wire}
use Rattle.pd_canvas.specs.Turns.{LeavesRoom}
use Rattle.pd_canvas.proofs.wires.raise_all.Given as goal

abbrev pub invariant-loop-wire : goal.invariant-loop-wire
invariant-loop-wire l = record {
  done : l.wires ≡ map (raised_wire l.number) (take l.wire-index l.fn.wires) ++ drop l.wire-index l.fn.wires;
  room : LeavesRoom (drop l.wire-index l.wires);
}
