use Rattle.pd_regrowth_law.proofs.TakeLemmas.{one_takes, several_take, page_takes, patch_takes}
use Rattle.pd_regrowth_law.proofs.laws.growth_takes.Goals as goal

pub returns-clause-one : goal.returns-clause-one
returns-clause-one c = one_takes

pub returns-clause-several : goal.returns-clause-several
returns-clause-several c = several_take

pub returns-clause-page : goal.returns-clause-page
returns-clause-page c = page_takes

pub returns-clause-patch : goal.returns-clause-patch
returns-clause-patch c = patch_takes
