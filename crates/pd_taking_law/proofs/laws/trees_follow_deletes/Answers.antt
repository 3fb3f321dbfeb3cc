use Rattle.pd_taking_law.proofs.StandLemmas.{grove_less, runs_less}
use Rattle.pd_taking_law.proofs.TreeLemmas.{tree_less}
use Rattle.pd_taking_law.proofs.laws.trees_follow_deletes.Goals as goal

pub returns-clause-stands : goal.returns-clause-stands
returns-clause-stands c = grove_less

pub returns-clause-runs : goal.returns-clause-runs
returns-clause-runs c = runs_less

pub returns-clause-now : goal.returns-clause-now
returns-clause-now c = tree_less
