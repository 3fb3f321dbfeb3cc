use Rattle.pd_regrowth_law.proofs.TrimLemmas.{patch_regrown, own_regrown, own_tree_twice}
use Rattle.pd_regrowth_law.proofs.laws.patches_grow_again.Goals as goal

pub returns-clause-rewired : goal.returns-clause-rewired
returns-clause-rewired c = patch_regrown

pub returns-clause-own : goal.returns-clause-own
returns-clause-own c = own_regrown

pub returns-clause-trimmed : goal.returns-clause-trimmed
returns-clause-trimmed c = own_tree_twice
