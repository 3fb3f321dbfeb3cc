use Rattle.std.proofs.Common.{◌≡◌, ◌≤◌, length, take}
use Rattle.pd_naming.specs.Naming.{arguments_of}
use Rattle.pd_naming.proofs.arguments.argument_name_at.Given as goal

abbrev pub invariant-loop-atom : goal.invariant-loop-atom
invariant-loop-atom l = (length (arguments_of (take l.atom-index l.atoms)) ≡ l.before) × (l.before ≤ l.i)
