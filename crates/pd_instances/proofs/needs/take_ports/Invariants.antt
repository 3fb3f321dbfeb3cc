use Rattle.std.proofs.Common.{◌≡◌, drop, take}
use Rattle.pd_instances.specs.Needs.{sum_of}
use Rattle.pd_instances.proofs.needs.take_ports.Given as goal

abbrev pub invariant-loop : goal.invariant-loop
invariant-loop l = (l.sum ≡ sum_of (take l.counter l.fn.stack.items)) × (l.stack.items ≡ drop l.counter l.fn.stack.items)
