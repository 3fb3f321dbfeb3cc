use Rattle.std.proofs.Common.{◌≡◌, ◌-◌, ◌≤◌, ◌++◌, length, drop}
use Rattle.std.specs.Prelude.{slice_range}
use Rattle.pd_lex.specs.Text.{unescaped}
use Rattle.pd_lex.proofs.escapes.unescape.Given as goal

abbrev pub invariant-loop-k : goal.invariant-loop-k
invariant-loop-k l = record {
  order : l.from ≤ l.at;
  within : l.at ≤ length l.token;
  text : l.out.items ++ (slice_range l.token l.from l.at ++ unescaped (drop l.at l.token)) ≡ unescaped l.token;
}

abbrev pub decreases-loop-k : goal.decreases-loop-k
decreases-loop-k l = length l.token - l.at
