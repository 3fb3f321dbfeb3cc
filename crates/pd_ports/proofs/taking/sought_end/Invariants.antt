use Rattle.std.proofs.Common.{◌≡◌, drop}
use Rattle.pd_ports.specs.Moves.{end_of}
use Rattle.pd_ports.proofs.taking.sought_end.Given as goal

abbrev pub invariant-loop-port : goal.invariant-loop-port
invariant-loop-port l = end_of (drop l.port-index l.old) l.inner ≡ end_of l.old l.inner
