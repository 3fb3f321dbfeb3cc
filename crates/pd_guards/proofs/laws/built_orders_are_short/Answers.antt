use Rattle.pd_guards.proofs.ToldLemmas.{built_few}
use Rattle.pd_guards.proofs.laws.built_orders_are_short.Goals as goal

pub returns : goal.returns
returns c = built_few
