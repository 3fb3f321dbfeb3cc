use Rattle.pd_putting_law.proofs.StandLemmas.{grove_before, grove_put, path_along, put_last, runs_before, runs_put}
use Rattle.pd_putting_law.proofs.TreeLemmas.{tree_before, tree_put}
use Rattle.pd_putting_law.proofs.laws.trees_follow_boxes.Goals as goal

pub returns-clause-stands_before : goal.returns-clause-stands_before
returns-clause-stands_before c = grove_before

pub returns-clause-runs_before : goal.returns-clause-runs_before
returns-clause-runs_before c = runs_before

pub returns-clause-now_before : goal.returns-clause-now_before
returns-clause-now_before c = tree_before

pub returns-clause-last : goal.returns-clause-last
returns-clause-last c = put_last

pub returns-clause-stands : goal.returns-clause-stands
returns-clause-stands c = grove_put

pub returns-clause-runs : goal.returns-clause-runs
returns-clause-runs c = runs_put

pub returns-clause-now : goal.returns-clause-now
returns-clause-now c = tree_put

pub returns-clause-along : goal.returns-clause-along
returns-clause-along c = path_along
