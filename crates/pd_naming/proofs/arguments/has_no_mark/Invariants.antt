use Rattle.std.proofs.Common.{◌≡◌, take, true}
use Rattle.std.specs.List.{list_all}
use Rattle.pd_naming.specs.Naming.{is_argument}
use Rattle.pd_naming.proofs.arguments.has_no_mark.Given as goal

abbrev pub invariant-loop-atom : goal.invariant-loop-atom
invariant-loop-atom l = list_all is_argument (take l.atom-index l.atoms) ≡ true
