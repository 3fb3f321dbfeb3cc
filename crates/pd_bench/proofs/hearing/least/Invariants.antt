use Rattle.std.proofs.Common.{◌<◌, length}
use Rattle.pd_glue.specs.Rows.{IsSmall}
use Rattle.pd_bench.proofs.hearing.least.Given as goal

abbrev pub invariant-loop : goal.invariant-loop
invariant-loop g l = IsSmall l.symbols l.kind l.state × (1 < length l.symbols)
