use Rattle.std.proofs.Common.{◌≡◌, drop}
use Rattle.pd_list.specs.Choices.{place_from}
use Rattle.pd_list.proofs.choices.place_of.Given as goal

abbrev pub invariant-loop-i : goal.invariant-loop-i
invariant-loop-i l = place_from l.i l.atom (drop l.i l.arguments) ≡ place_from 0 l.atom l.arguments
