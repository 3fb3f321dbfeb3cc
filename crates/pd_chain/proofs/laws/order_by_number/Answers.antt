use Rattle.pd_chain.proofs.NumberLemmas.{order_by_number}
use Rattle.pd_chain.proofs.laws.order_by_number.Goals as goal

pub returns : goal.returns
returns c = order_by_number
