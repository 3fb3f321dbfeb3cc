use Rattle.pd_patch.proofs.GrowthLemmas.{tree_fits, tree_shallow}
use Rattle.pd_patch.proofs.laws.growth_is_shallow.Goals as goal

pub returns-clause-documents : goal.returns-clause-documents
returns-clause-documents c = λ lib name p w v t l g. tree_shallow lib name p w v t l g

pub returns-clause-all : goal.returns-clause-all
returns-clause-all c = λ lib name p w v t g. (tree_fits lib name p w v t g).1
