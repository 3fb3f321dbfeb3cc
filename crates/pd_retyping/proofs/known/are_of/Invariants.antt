use Rattle.std.proofs.Common.{take}
use Rattle.std.specs.List.{All}
use Rattle.pd_atom.specs.Atoms.{IsOf}
use Rattle.pd_retyping.proofs.known.are_of.Given as goal

abbrev pub invariant-loop-atom : goal.invariant-loop-atom
invariant-loop-atom l = record {
  all : All (IsOf l.symbols) (take l.atom-index l.atoms);
}
