use Rattle.pd_retyping_law.proofs.SavedLemmas.{tree_fresh}
use Rattle.pd_retyping_law.proofs.StandLemmas.{grove_retyped, runs_retyped}
use Rattle.pd_retyping_law.proofs.TreeLemmas.{tree_retyped}
use Rattle.pd_retyping_law.proofs.laws.trees_follow_retypes.Goals as goal

pub returns-clause-stands : goal.returns-clause-stands
returns-clause-stands c = λ g h path canvas key number n n' t B G. grove_retyped g h path canvas key number n n' B t G

pub returns-clause-runs : goal.returns-clause-runs
returns-clause-runs c = λ g h path canvas key number n n' t rate now B R f. runs_retyped g h path canvas key number n n' B t rate now R f

pub returns-clause-now : goal.returns-clause-now
returns-clause-now c = λ g h w numbers path canvas key number n n' t B G. tree_retyped g h path canvas key number n n' B w numbers t G

pub returns-clause-fresh : goal.returns-clause-fresh
returns-clause-fresh c = λ g h w numbers path canvas key number n n' t rate now B G f plain made keeps.
    tree_fresh g h path canvas key number n n' B w numbers t rate now G f plain made keeps
