use Rattle.pd_regrowth_law.proofs.MoveLemmas.{leaf_moved, holder_moved}
use Rattle.pd_regrowth_law.proofs.laws.places_are_unseen.Goals as goal

pub returns-clause-leaf : goal.returns-clause-leaf
returns-clause-leaf c = leaf_moved

pub returns-clause-holder : goal.returns-clause-holder
returns-clause-holder c = holder_moved
