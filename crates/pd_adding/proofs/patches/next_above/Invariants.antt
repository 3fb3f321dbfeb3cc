use Rattle.std.proofs.Common.{◌≡◌, ◌-◌, ◌^◌, min, take}
use Rattle.pd_adding.specs.Counted.{next_above}
use Rattle.pd_adding.proofs.patches.next_above.Given as goal

abbrev pub invariant-loop-zero : goal.invariant-loop-zero
invariant-loop-zero l = l.next ≡ min (next_above (take l.zero-index l.zeros)) (2 ^ 32 - 1)
