use Rattle.std.proofs.Common.{◌≡◌, ◌++◌, take}
use Rattle.pd_num.proofs.printing.push_whole.Given as goal

abbrev pub invariant-loop-b : goal.invariant-loop-b
invariant-loop-b l = l.out.items ≡ l.initial.out.items ++ take l.b-index l.b-items
