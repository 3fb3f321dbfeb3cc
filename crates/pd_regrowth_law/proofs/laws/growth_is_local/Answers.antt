use Rattle.pd_regrowth_law.proofs.AgainLemmas.{one_again, several_again, page_again, patch_again}
use Rattle.pd_regrowth_law.proofs.laws.growth_is_local.Goals as goal

pub returns-clause-one : goal.returns-clause-one
returns-clause-one c = one_again

pub returns-clause-several : goal.returns-clause-several
returns-clause-several c = several_again

pub returns-clause-page : goal.returns-clause-page
returns-clause-page c = page_again

pub returns-clause-patch : goal.returns-clause-patch
returns-clause-patch c = patch_again
