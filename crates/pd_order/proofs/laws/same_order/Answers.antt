use Rattle.pd_order.proofs.SameLemmas.{same_order}
use Rattle.pd_order.proofs.laws.same_order.Goals as goal

pub returns : goal.returns
returns c = same_order
