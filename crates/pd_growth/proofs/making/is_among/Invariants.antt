use Rattle.std.proofs.Common.{◌≡◌, take, bytes_eq, false}
use Rattle.std.specs.List.{list_any}
use Rattle.pd_atom.specs.Names.{name_of}
use Rattle.pd_growth.proofs.making.is_among.Given as goal

abbrev pub invariant-loop-other : goal.invariant-loop-other
invariant-loop-other l = list_any (λ t. bytes_eq l.name (name_of l.symbols t)) (take l.other-index l.inside) ≡ false
