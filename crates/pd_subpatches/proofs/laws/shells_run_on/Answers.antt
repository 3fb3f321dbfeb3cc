use Rattle.pd_subpatches.proofs.LawLemmas.{can_more, goes_on}
use Rattle.pd_subpatches.proofs.laws.shells_run_on.Goals as goal

pub returns-clause-can : goal.returns-clause-can
returns-clause-can c = λ p q table place s key P S I. can_more p q table place s key P S.canvas I

pub returns-clause-built : goal.returns-clause-built
returns-clause-built c = λ p q table place s key P S I file rate b. goes_on p q table place s key P S.canvas I file rate b
