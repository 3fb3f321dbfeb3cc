use Rattle.std.proofs.Common.{◌↔◌, drop}
use Rattle.pd_doc.specs.Atoms.{RowsOf}
use Rattle.pd_save.proofs.atoms.rows_are_of.Given as goal

abbrev pub invariant-loop-row : goal.invariant-loop-row
invariant-loop-row l = RowsOf l.symbols (drop l.row-index l.rows) ↔ RowsOf l.symbols l.rows
