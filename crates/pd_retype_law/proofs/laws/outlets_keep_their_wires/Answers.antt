use Rattle.pd_retype_law.proofs.CaseLemmas.{both_places}
use Rattle.pd_retype_law.proofs.laws.outlets_keep_their_wires.Goals as goal

pub returns : goal.returns
returns c = λ old new n name path number text now k after steps steps' b node outlet x. both_places old new n name path number text now k after steps steps' b x node outlet
