use Rattle.std.proofs.Common.{◌≡◌, ◌+◌, ◌-◌, ◌≤◌, length, drop}
use Rattle.pd_lex.specs.Reading.{records, rest_of}
use Rattle.pd_atom.specs.Names.{Extends}
use Rattle.pd_doc.specs.States.{start}
use Rattle.pd_doc.specs.Views.{state_of}
use Rattle.pd_doc.specs.Reading.{run}
use Rattle.pd_doc.proofs.reading.read_records.Given as goal

abbrev pub invariant-loop-after : goal.invariant-loop-after
invariant-loop-after l = record {
  within : l.at ≤ length l.bytes;
  few : l.count ≤ l.at;
  run : run (state_of l.reader, l.symbols) l.count (records (drop l.at l.bytes)) ≡ run (start, l.fn.symbols) 0 (records l.bytes);
  count : l.count + length (records (drop l.at l.bytes)) ≡ length (records l.bytes);
  rest : rest_of (drop l.at l.bytes) ≡ rest_of l.bytes;
  extends : Extends l.fn.symbols l.symbols;
}

abbrev pub decreases-loop-after : goal.decreases-loop-after
decreases-loop-after l = length l.bytes - l.at
