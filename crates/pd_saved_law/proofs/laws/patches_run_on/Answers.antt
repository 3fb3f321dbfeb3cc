use Rattle.pd_saved_law.proofs.RunLemmas.{first_runs, edited_runs}
use Rattle.pd_saved_law.proofs.laws.patches_run_on.Goals as goal

pub returns-clause-first : goal.returns-clause-first
returns-clause-first c = first_runs

pub returns-clause-edited : goal.returns-clause-edited
returns-clause-edited c = edited_runs
