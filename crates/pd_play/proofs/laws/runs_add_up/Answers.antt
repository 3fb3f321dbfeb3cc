use Rattle.pd_play.proofs.SumLemmas.{run_adds, whole_adds}
use Rattle.pd_play.proofs.laws.runs_add_up.Goals as goal

pub returns-clause-scripts : goal.returns-clause-scripts
returns-clause-scripts c = run_adds

pub returns-clause-wholes : goal.returns-clause-wholes
returns-clause-wholes c = whole_adds
