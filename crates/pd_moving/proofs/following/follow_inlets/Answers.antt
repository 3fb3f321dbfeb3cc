use Rattle.pd_grove.specs.declared.ports.Side.TheVariants.{Inlets}
use Rattle.pd_web.specs.Jacks.{jacks_at}
use Rattle.pd_moving.proofs.OrderLemmas.{inlets_in_order}
use Rattle.pd_moving.proofs.following.follow_inlets.Goals as goal

pub returns-clause-order : goal.returns-clause-order
returns-clause-order c = λ labels order.
    inlets_in_order c.args.web.now c.follow_ports.new.web c.args.key (jacks_at Inlets c.args.grove.now c.args.key) c.follow_ports.ensures.follows c.laws.ensures.feeds labels order
