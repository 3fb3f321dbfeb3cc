use Rattle.pd_stage.proofs.LeadLemmas.{joined_assoc, joined_still}
use Rattle.pd_stage.proofs.laws.parts_join.Goals as goal

pub returns-clause-together : goal.returns-clause-together
returns-clause-together c = λ p q r. joined_assoc p q r

pub returns-clause-nothing : goal.returns-clause-nothing
returns-clause-nothing c = λ p. joined_still p
