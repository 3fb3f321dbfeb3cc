use Rattle.pd_take_law.proofs.DeletedLemmas.{box_gone}
use Rattle.pd_take_law.proofs.SavedLemmas.{still_proper, still_written}
use Rattle.pd_take_law.proofs.laws.shorter_documents_can_be_saved.Goals as goal

pub returns-clause-proper : goal.returns-clause-proper
returns-clause-proper c = λ old new n table path number steps steps' b t later D C R p.
    still_proper old new path b.canvas b.key number (box_gone old new n table path number steps steps' b D C) t R later p

pub returns-clause-contents : goal.returns-clause-contents
returns-clause-contents c = λ old new n table path number steps steps' b names D C h.
    still_written old new path b.canvas b.key number (box_gone old new n table path number steps steps' b D C) names h
