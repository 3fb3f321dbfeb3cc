use Rattle.pd_retyping_law.proofs.AgainLemmas.{box_made, patch_retyped, retyped_stands}
use Rattle.pd_retyping_law.proofs.laws.retyped_trees_grow_again.Goals as goal

pub returns-clause-one : goal.returns-clause-one
returns-clause-one c = λ lib file left path number t u e w v x s at bare low o lev none inner grows.
    retyped_stands lib file left path t u e w v x s at low o lev none inner grows number bare

pub returns-clause-made : goal.returns-clause-made
returns-clause-made c = box_made

pub returns-clause-retyped : goal.returns-clause-retyped
returns-clause-retyped c = patch_retyped
