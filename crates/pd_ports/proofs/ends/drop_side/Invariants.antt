use Rattle.std.proofs.Common.{take}
use Rattle.pd_ports.specs.Ends.{Drops, IsAmong}
use Rattle.pd_ports.proofs.ends.drop_side.Given as goal

abbrev pub invariant-loop-port : goal.invariant-loop-port
invariant-loop-port l = Drops l.fn.book l.book (IsAmong (take l.port-index l.ports))
