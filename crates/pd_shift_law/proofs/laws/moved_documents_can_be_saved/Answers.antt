use Rattle.pd_shift_law.proofs.AgainLemmas.{still_proper}
use Rattle.pd_shift_law.proofs.InsideLemmas.{still_written}
use Rattle.pd_shift_law.proofs.laws.moved_documents_can_be_saved.Goals as goal

pub returns-clause-proper : goal.returns-clause-proper
returns-clause-proper c = λ old new path number x y b t later M C R p. still_proper old new path number x y b t M C R later p

pub returns-clause-contents : goal.returns-clause-contents
returns-clause-contents c = λ old new path number x y b names M C H. still_written old new path number x y b M names H
