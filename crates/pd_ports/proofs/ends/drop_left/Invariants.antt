use Rattle.std.proofs.Common.{take}
use Rattle.pd_ports.specs.Ends.{Drops}
use Rattle.pd_ports.specs.Moves.{IsLeft}
use Rattle.pd_ports.proofs.ends.drop_left.Given as goal

abbrev pub invariant-loop-port : goal.invariant-loop-port
invariant-loop-port l = Drops l.fn.book l.book (IsLeft (take l.port-index l.old) l.new)
