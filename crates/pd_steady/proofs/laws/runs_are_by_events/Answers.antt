use Rattle.pd_steady.proofs.OwnLemmas.{commanded_own, advanced_own, finished_own, opened_own}
use Rattle.pd_steady.proofs.laws.runs_are_by_events.Goals as goal

pub returns : goal.returns
returns c = record {
  commanded = commanded_own;
  advanced = advanced_own;
  finished = finished_own;
  opened = opened_own;
}
