use Rattle.pd_growth.proofs.FileLemmas.{learned_at, published_at, cut_at}
use Rattle.pd_growth.proofs.suits.files_suit.Goals as goal

pub returns-clause-learned : goal.returns-clause-learned
returns-clause-learned c = λ names es name answer h a n. learned_at names es name answer n (h n) a

pub returns-clause-published : goal.returns-clause-published
returns-clause-published c = λ names es name answer h a n. published_at names es name answer n (h n) a

pub returns-clause-cut : goal.returns-clause-cut
returns-clause-cut c = λ names es k h n. cut_at names k es n (h n)
