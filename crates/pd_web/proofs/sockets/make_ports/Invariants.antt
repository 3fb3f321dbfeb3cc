use Rattle.std.proofs.Common.{◌≡◌, take}
use Rattle.pd_web.specs.Sockets.{loose_ports}
use Rattle.pd_web.proofs.sockets.make_ports.Given as goal

abbrev pub invariant-loop-jack : goal.invariant-loop-jack
invariant-loop-jack l = l.ports.items ≡ loose_ports (take l.jack-index l.jacks)
