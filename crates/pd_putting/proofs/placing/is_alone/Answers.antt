use Rattle.pd_putting.proofs.LastLemmas.{neither}
use Rattle.pd_putting.proofs.placing.is_alone.Goals as goal

pub returns-else-is_single-clause-no : goal.returns-else-is_single-clause-no
returns-else-is_single-clause-no c = λ alone number a A. neither (c.is_single.ensures.no c.if-is_single.false a A) (c.is_sub.ensures.no alone number a A)
