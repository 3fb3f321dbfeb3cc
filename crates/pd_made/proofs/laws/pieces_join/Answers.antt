use Rattle.pd_made.proofs.TallyLemmas.{tallied_join}
use Rattle.pd_made.proofs.laws.pieces_join.Goals as goal

pub returns-clause-joined : goal.returns-clause-joined
returns-clause-joined c = tallied_join
