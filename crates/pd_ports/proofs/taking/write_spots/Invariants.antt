use Rattle.std.proofs.Common.{take}
use Rattle.pd_ports.specs.Moves.{Respots}
use Rattle.pd_ports.proofs.taking.write_spots.Given as goal

abbrev pub invariant-loop-i : goal.invariant-loop-i
invariant-loop-i l = Respots l.fn.spots.items l.spots.items (take l.i l.ports) l.side l.key
