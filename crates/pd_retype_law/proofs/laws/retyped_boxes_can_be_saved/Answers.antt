use Rattle.pd_retype_law.proofs.CaseLemmas.{both_contents, both_proper}
use Rattle.pd_retype_law.proofs.laws.retyped_boxes_can_be_saved.Goals as goal

pub returns-clause-proper : goal.returns-clause-proper
returns-clause-proper c = λ old new n name path number text now k after steps steps' b t later x can r a on table few h. both_proper old new n name path number text now k after steps steps' b x can t r a later on table h

pub returns-clause-contents : goal.returns-clause-contents
returns-clause-contents c = λ old new n name path number text now k after steps steps' b t x can r a h. both_contents old new n name path number text now k after steps steps' b x can t r a h
