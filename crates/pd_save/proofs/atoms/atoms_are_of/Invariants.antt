use Rattle.std.proofs.Common.{◌↔◌, drop}
use Rattle.pd_doc.specs.Atoms.{AreOf}
use Rattle.pd_save.proofs.atoms.atoms_are_of.Given as goal

abbrev pub invariant-loop-atom : goal.invariant-loop-atom
invariant-loop-atom l = AreOf l.symbols (drop l.atom-index l.atoms) ↔ AreOf l.symbols l.atoms
