use Rattle.std.proofs.Common.{take}
use Rattle.pd_ports.specs.Homes.{Forgets, IsInner}
use Rattle.pd_ports.proofs.homes.forget_all.Given as goal

abbrev pub invariant-loop-port : goal.invariant-loop-port
invariant-loop-port l = Forgets l.fn.homes l.homes l.node (IsInner (take l.port-index l.ports))
