use Rattle.pd_regrowth_law.specs.Renewal.{GrowsAnew}
use Rattle.pd_regrowth_law.proofs.RebuildLemmas.{page_rebuilt, patch_rebuilt, unasked_stays}
use Rattle.pd_regrowth_law.proofs.laws.rebuilt_documents_regrow.Goals as goal

pub returns-clause-page : goal.returns-clause-page
returns-clause-page c = page_rebuilt

pub returns-clause-patch : goal.returns-clause-patch
returns-clause-patch c = patch_rebuilt

pub returns-clause-unasked : goal.returns-clause-unasked
returns-clause-unasked c = λ lib root a names. unasked_stays (GrowsAnew lib root a names)
