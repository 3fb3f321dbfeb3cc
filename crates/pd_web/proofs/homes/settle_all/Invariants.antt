use Rattle.std.proofs.Common.{take}
use Rattle.pd_web.specs.Homes.{IsAmong, Settles}
use Rattle.pd_web.proofs.homes.settle_all.Given as goal

abbrev pub invariant-loop-i : goal.invariant-loop-i
invariant-loop-i l = Settles l.fn.homes l.homes (IsAmong l.side l.node (take l.i l.ports))
