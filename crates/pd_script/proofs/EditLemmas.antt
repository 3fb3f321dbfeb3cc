-- Edits whose atoms are of a table.
use Rattle.std.proofs.Common.{List, ℤ}
use Rattle.pd_atom.specs.Names.{Names}
use Rattle.pd_atom.specs.declared.Atom.{Atom}
use Rattle.pd_script.specs.declared.changes.BoxVerb.{BoxVerb}
use Rattle.pd_script.specs.declared.changes.BoxVerb.TheVariants as shape
use Rattle.pd_script.specs.Tables.{AreOf, EditOf}
use Rattle.pd_script.specs.Changes.{made_box}

-- a new box has the atoms of its text
pub made_of_table : (names : Names) (s : BoxVerb) (x y : ℤ) (text : List Atom) → AreOf names text → EditOf names (made_box s x y text)
made_of_table names shape.Obj x y text h = h
made_of_table names shape.Msg x y text h = h
made_of_table names shape.Text x y text h = h
made_of_table names shape.FloatAtom x y text h = h
made_of_table names shape.SymbolAtom x y text h = h
made_of_table names shape.Sub x y text h = h
