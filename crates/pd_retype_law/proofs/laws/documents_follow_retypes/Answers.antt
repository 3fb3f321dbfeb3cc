use Rattle.pd_retype_law.proofs.CaseLemmas.{both_edited, both_kept}
use Rattle.pd_retype_law.proofs.laws.documents_follow_retypes.Goals as goal

pub returns-clause-kept : goal.returns-clause-kept
returns-clause-kept c = λ old new n name path number text now k after steps steps' b t x can r a h. both_kept old new n name path number text now k after steps steps' b x can t r a h

pub returns-clause-edited : goal.returns-clause-edited
returns-clause-edited c = λ old new n name path number text now k after steps steps' b t x can r a h keeps. both_edited old new n name path number text now k after steps steps' b x can t r a h keeps
