use Rattle.std.proofs.Common.{◌≡◌, take, drop}
use Rattle.pd_fit.proofs.counting.take_first.Given as goal

abbrev pub invariant-loop : goal.invariant-loop
invariant-loop l = (l.taken.items ≡ take l.counter l.fn.stack.items) × (l.stack.items ≡ drop l.counter l.fn.stack.items)
