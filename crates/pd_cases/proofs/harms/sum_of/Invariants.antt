use Rattle.std.specs.Prelude.{◌<◌}
use Rattle.pd_cases.proofs.harms.sum_of.Given as goal

abbrev pub invariant-loop-byte : goal.invariant-loop-byte
invariant-loop-byte l = record {
  small : l.sum < 65521;
}
