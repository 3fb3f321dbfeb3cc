use Rattle.std.proofs.Common.{◌≡◌, drop}
use Rattle.std.specs.List.{list_all}
use Rattle.pd_script.specs.Atoms.{is_plain}
use Rattle.pd_script.proofs.atoms.are_plain.Given as goal

abbrev pub invariant-loop-atom : goal.invariant-loop-atom
invariant-loop-atom l = list_all is_plain (drop l.atom-index l.atoms) ≡ list_all is_plain l.atoms
