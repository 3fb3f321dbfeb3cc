use Rattle.pd_faithful.proofs.RecordLemmas.{run_own}
use Rattle.pd_faithful.proofs.laws.scripts_are_by_events.Goals as goal

pub returns : goal.returns
returns c = run_own
