use Rattle.std.specs.List.{All}
use Rattle.pd_atom.specs.Atoms.{IsOf}
use Rattle.pd_cases.proofs.naming.atoms_of.Given as goal

abbrev pub invariant-loop-token : goal.invariant-loop-token
invariant-loop-token l = record {
  of_table : All (IsOf l.symbols) l.atoms.items;
}
