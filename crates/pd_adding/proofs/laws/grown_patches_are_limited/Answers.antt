use Rattle.pd_adding.proofs.LimitLemmas.{grown_limited, own_zero_few}
use Rattle.pd_adding.proofs.laws.grown_patches_are_limited.Goals as goal

pub returns-clause-tree : goal.returns-clause-tree
returns-clause-tree c = grown_limited

pub returns-clause-zero : goal.returns-clause-zero
returns-clause-zero c = own_zero_few
