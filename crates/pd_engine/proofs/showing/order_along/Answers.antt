use Rattle.pd_engine.proofs.ShowLemmas.{order_some, order_none}
use Rattle.pd_engine.proofs.showing.order_along.Goals as goal

pub returns-in-Some : goal.returns-in-Some
returns-in-Some c = order_some c.args.patch.now c.args.path.now _ _ c.in-Some.ensures c.order_at.ensures

pub returns-in-None : goal.returns-in-None
returns-in-None c = order_none c.args.patch.now c.args.path.now c.in-None.ensures
