use Rattle.std.proofs.Common.{◌≡◌}
use Rattle.pd_order.specs.Wired.{numbers_below}
use Rattle.pd_measure.proofs.keys.numbers.Given as goal

abbrev pub invariant-loop-number : goal.invariant-loop-number
invariant-loop-number l = l.made.items ≡ numbers_below l.number
