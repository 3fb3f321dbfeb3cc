use Rattle.pd_glue.specs.Rows.{IsSmall}
use Rattle.pd_cases.proofs.hearing.take_all.Given as goal

abbrev pub invariant-loop-event : goal.invariant-loop-event
invariant-loop-event l = record {
  small : IsSmall l.symbols l.kind l.state;
}
