use Rattle.std.proofs.Common.{◌≡◌, true, take}
use Rattle.std.specs.List.{All, list_all}
use Rattle.pd_atom.specs.Atoms.{IsOf}
use Rattle.pd_hearing.specs.Guards.{is_atom}
use Rattle.pd_hearing.proofs.known.are_known.Given as goal

abbrev pub invariant-loop-atom : goal.invariant-loop-atom
invariant-loop-atom l = record {
  all : All (IsOf l.symbols) (take l.atom-index l.atoms);
  value : list_all (is_atom l.symbols) (take l.atom-index l.atoms) ≡ true;
}
