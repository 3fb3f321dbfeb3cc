use Rattle.pd_retyping_law.proofs.CountLemmas.{as_much, zeros_renamed}
use Rattle.pd_retyping_law.proofs.StandLemmas.{grove_renamed, runs_renamed}
use Rattle.pd_retyping_law.proofs.TreeLemmas.{tree_renamed}
use Rattle.pd_retyping_law.proofs.renames.trees_follow_renames.Goals as goal

pub returns-clause-stands : goal.returns-clause-stands
returns-clause-stands c = λ g h path canvas key number n n' t B G. grove_renamed g h path canvas key number n n' B t G

pub returns-clause-runs : goal.returns-clause-runs
returns-clause-runs c = λ g h path canvas key number n n' t B R. runs_renamed g h path canvas key number n n' B t R

pub returns-clause-now : goal.returns-clause-now
returns-clause-now c = λ g h w numbers path canvas key number n n' t B G. tree_renamed g h path canvas key number n n' B w numbers t G

pub returns-clause-zeros : goal.returns-clause-zeros
returns-clause-zeros c = λ g h path canvas key number n n' t B G. zeros_renamed g h path canvas key number n n' B t G

pub returns-clause-sound : goal.returns-clause-sound
returns-clause-sound c = λ rate g h path canvas key number n n' t B G. as_much rate g h path canvas key number n n' B t G
