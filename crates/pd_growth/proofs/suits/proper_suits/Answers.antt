use Rattle.pd_growth.proofs.FileLemmas.{proper_page}
use Rattle.pd_growth.proofs.suits.proper_suits.Goals as goal

pub returns-clause-page : goal.returns-clause-page
returns-clause-page c = λ names p h. proper_page names p h

pub returns-clause-root : goal.returns-clause-root
returns-clause-root c = λ names p h. (proper_page names p h, h.limits.levels)
