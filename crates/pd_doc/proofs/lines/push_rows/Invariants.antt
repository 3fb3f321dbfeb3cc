use Rattle.std.proofs.Common.{◌≡◌, ◌++◌, drop}
use Rattle.pd_doc.specs.Atoms.{RowsOf}
use Rattle.pd_doc.specs.Lines.{rows_text}
use Rattle.pd_doc.proofs.lines.push_rows.Given as goal

abbrev pub invariant-loop-row : goal.invariant-loop-row
invariant-loop-row l = record {
  text : l.out.items ++ rows_text l.symbols l.words (drop l.row-index l.rows) ≡ l.fn.out.items ++ rows_text l.symbols l.words l.rows;
  of_table : RowsOf l.symbols (drop l.row-index l.rows);
}
