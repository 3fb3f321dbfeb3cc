use Rattle.pd_guards.proofs.WalkLemmas.{order_later}
use Rattle.pd_guards.proofs.laws.order_lasts.Goals as goal

pub returns : goal.returns
returns c = order_later
