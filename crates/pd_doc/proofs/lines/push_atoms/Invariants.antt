use Rattle.std.proofs.Common.{◌≡◌, ◌++◌, drop}
use Rattle.pd_doc.specs.Atoms.{AreOf}
use Rattle.pd_doc.specs.Writing.{atom_pieces, spaced}
use Rattle.pd_doc.proofs.lines.push_atoms.Given as goal

abbrev pub invariant-loop-atom : goal.invariant-loop-atom
invariant-loop-atom l = record {
  text : l.out.items ++ spaced (atom_pieces l.symbols (drop l.atom-index l.atoms)) ≡ l.fn.out.items ++ spaced (atom_pieces l.symbols l.atoms);
  of_table : AreOf l.symbols (drop l.atom-index l.atoms);
}
