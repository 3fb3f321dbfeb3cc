use Rattle.pd_chain.proofs.NumberLemmas.{orders_agree}
use Rattle.pd_chain.proofs.laws.orders_agree.Goals as goal

pub returns : goal.returns
returns c = orders_agree
