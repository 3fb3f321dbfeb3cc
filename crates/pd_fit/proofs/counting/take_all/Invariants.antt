use Rattle.std.proofs.Common.{◌≡◌, ◌++◌, length}
use Rattle.pd_fit.proofs.counting.take_all.Given as goal

abbrev pub invariant-loop-seen : goal.invariant-loop-seen
invariant-loop-seen l = l.fn.stack.items ≡ l.taken.items ++ l.stack.items

abbrev pub decreases-loop-seen : goal.decreases-loop-seen
decreases-loop-seen l = length l.stack.items
