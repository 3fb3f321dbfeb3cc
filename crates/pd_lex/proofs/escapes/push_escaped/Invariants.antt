use Rattle.std.proofs.Common.{◌≡◌, ◌-◌, ◌++◌, ◌≤◌, length, drop, take, vec_len}
use Rattle.std.specs.Prelude.{slice_range}
use Rattle.pd_lex.specs.Text.{escaped}
use Rattle.pd_lex.proofs.escapes.push_escaped.Given as goal

abbrev pub invariant-loop-k : goal.invariant-loop-k
invariant-loop-k l = record {
  order : l.from ≤ l.at;
  within : l.at ≤ length l.name;
  text : l.out.items ++ (slice_range l.name l.from l.at ++ escaped (drop l.at l.name)) ≡ l.fn.out.items ++ escaped l.name;
  front : take (vec_len l.fn.out) l.out.items ≡ l.fn.out.items;
  long : vec_len l.fn.out ≤ vec_len l.out;
}

abbrev pub decreases-loop-k : goal.decreases-loop-k
decreases-loop-k l = length l.name - l.at
