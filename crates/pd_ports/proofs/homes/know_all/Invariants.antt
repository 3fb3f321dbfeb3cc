use Rattle.std.proofs.Common.{take}
use Rattle.pd_ports.specs.Homes.{Knows}
use Rattle.pd_ports.proofs.homes.know_all.Given as goal

abbrev pub invariant-loop-i : goal.invariant-loop-i
invariant-loop-i l = Knows l.fn.homes l.homes (take l.i l.ports) l.side l.node
