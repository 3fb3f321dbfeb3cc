use Rattle.pd_order.proofs.UniqueLemmas.{one_order}
use Rattle.pd_order.proofs.laws.one_order.Goals as goal

pub returns : goal.returns
returns c = one_order
