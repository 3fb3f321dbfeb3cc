use Rattle.pd_grove.proofs.PruneLemmas.{forest_pruned}
use Rattle.pd_forest_law.proofs.LessLemmas.{tree_less}
use Rattle.pd_forest_law.proofs.laws.prunes.Goals as goal

pub returns-clause-forest : goal.returns-clause-forest
returns-clause-forest c = λ nodes nodes' boards boards' root b k n before behind T F. forest_pruned nodes nodes' boards boards' root b k n before behind T F

pub returns-clause-tree : goal.returns-clause-tree
returns-clause-tree c = λ nodes nodes' boards boards' root b k n before behind T F. tree_less nodes nodes' boards boards' root b k n before behind T F
