use Rattle.std.proofs.Common.{◌≡◌, map, drop}
use Rattle.pd_atom.specs.Names.{Extends}
use Rattle.pd_doc.specs.Pieces.{piece}
use Rattle.pd_doc.specs.Fields.{atoms_of}
use Rattle.pd_doc.proofs.ResultLemmas.{with_front}
use Rattle.pd_doc.proofs.atoms.atoms.Given as goal

abbrev pub invariant-loop-lexeme : goal.invariant-loop-lexeme
invariant-loop-lexeme l = record {
  exact : with_front l.atoms.items (atoms_of l.number l.symbols (map piece (drop l.lexeme-index l.lexemes))) ≡ atoms_of l.number l.fn.symbols (map piece l.lexemes);
  extends : Extends l.fn.symbols l.symbols;
}
