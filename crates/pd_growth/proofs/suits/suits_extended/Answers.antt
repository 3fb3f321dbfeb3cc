use Rattle.pd_growth.proofs.SuitLemmas.{page_extended, files_extended}
use Rattle.pd_growth.proofs.suits.suits_extended.Goals as goal

pub returns-clause-page : goal.returns-clause-page
returns-clause-page c = page_extended

pub returns-clause-root : goal.returns-clause-root
returns-clause-root c = λ old new p e h. (page_extended old new p e h.0, h.1)

pub returns-clause-files : goal.returns-clause-files
returns-clause-files c = files_extended
