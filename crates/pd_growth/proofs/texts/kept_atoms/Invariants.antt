use Rattle.std.proofs.Common.{◌≡◌, take}
use Rattle.pd_naming.specs.Naming.{arguments_of}
use Rattle.pd_growth.proofs.texts.kept_atoms.Given as goal

abbrev pub invariant-loop-atom : goal.invariant-loop-atom
invariant-loop-atom l = l.list.items ≡ arguments_of (take l.atom-index l.atoms)
