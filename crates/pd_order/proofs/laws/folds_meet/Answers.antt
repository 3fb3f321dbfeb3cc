use Rattle.pd_order.proofs.UniqueLemmas.{meets}
use Rattle.pd_order.proofs.laws.folds_meet.Goals as goal

pub returns : goal.returns
returns c = meets
