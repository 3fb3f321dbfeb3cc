use Rattle.std.proofs.Common.{◌<◌, length}
use Rattle.pd_glue.specs.Rows.{IsSmall}
use Rattle.pd_bench.proofs.hearing.measure.Given as goal

abbrev pub invariant-loop-i : goal.invariant-loop-i
invariant-loop-i g l = IsSmall l.symbols l.kind l.state × (1 < length l.symbols)
