use Rattle.pd_shift_law.proofs.AgainLemmas.{still_again}
use Rattle.pd_shift_law.proofs.InsideLemmas.{still_holds}
use Rattle.pd_shift_law.proofs.laws.moved_trees_grow_again.Goals as goal

pub returns-clause-again : goal.returns-clause-again
returns-clause-again c = λ old new path number x y b t M C R lib file names S. still_again old new path number x y b t M C R lib file names S

pub returns-clause-holds : goal.returns-clause-holds
returns-clause-holds c = λ old new path number x y b t M C R H. still_holds old new path number x y b M C t R H
