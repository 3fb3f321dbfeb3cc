use Rattle.pd_regrowth_law.proofs.NamedLemmas.{one_named, several_named, page_named, patch_named}
use Rattle.pd_regrowth_law.proofs.laws.boxes_ask_as_named.Goals as goal

pub returns-clause-one : goal.returns-clause-one
returns-clause-one c = one_named

pub returns-clause-several : goal.returns-clause-several
returns-clause-several c = several_named

pub returns-clause-page : goal.returns-clause-page
returns-clause-page c = page_named

pub returns-clause-patch : goal.returns-clause-patch
returns-clause-patch c = patch_named
