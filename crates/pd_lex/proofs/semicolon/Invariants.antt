use Rattle.std.proofs.Common.{◌≡◌, ◌-◌, ◌≤◌, length, drop}
use Rattle.pd_lex.specs.Reading.{semicolon, plus}
use Rattle.pd_lex.proofs.semicolon.Given as goal

abbrev pub invariant-loop-k : goal.invariant-loop-k
invariant-loop-k l = (l.i ≤ length l.bytes) × (semicolon l.bytes ≡ plus l.i (semicolon (drop l.i l.bytes)))

abbrev pub decreases-loop-k : goal.decreases-loop-k
decreases-loop-k l = length l.bytes - l.i
