use Rattle.pd_regrowth_law.proofs.DocumentLemmas.{page_stays, patch_stays}
use Rattle.pd_regrowth_law.proofs.laws.document_stays.Goals as goal

pub returns-clause-page : goal.returns-clause-page
returns-clause-page c = page_stays

pub returns-clause-patch : goal.returns-clause-patch
returns-clause-patch c = patch_stays
