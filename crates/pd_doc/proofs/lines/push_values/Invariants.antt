use Rattle.std.proofs.Common.{◌≡◌, ◌++◌, ◌+◌, ◌-◌, ◌/◌, ◌≤◌, length, drop}
use Rattle.pd_doc.specs.Lines.{runs_text, values_text}
use Rattle.pd_doc.proofs.lines.push_values.Given as goal

abbrev pub invariant-loop-from : goal.invariant-loop-from
invariant-loop-from l = record {
  within : l.from ≤ length l.values;
  text : l.out.items ++ runs_text l.symbols ((length l.values - l.from + 999) / 1000) l.from (drop l.from l.values) ≡ l.fn.out.items ++ values_text l.symbols l.values;
}

abbrev pub decreases-loop-from : goal.decreases-loop-from
decreases-loop-from l = length l.values - l.from
