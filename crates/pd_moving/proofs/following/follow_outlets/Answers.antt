use Rattle.pd_grove.specs.declared.ports.Side.TheVariants.{Outlets}
use Rattle.pd_web.specs.Jacks.{jacks_at}
use Rattle.pd_ports.proofs.OnceLemmas.{jacks_once}
use Rattle.pd_moving.proofs.OrderLemmas.{outlets_in_order}
use Rattle.pd_moving.proofs.following.follow_outlets.Goals as goal

pub returns-clause-order : goal.returns-clause-order
returns-clause-order c = λ labels kept own order.
    outlets_in_order c.args.web.now c.follow_ports.new.web c.args.key (jacks_at Outlets c.args.grove.now c.args.key) c.follow_ports.ensures.follows c.requires.meet c.laws.ensures.feeds c.requires.gone
    (jacks_once c.args.grove.now Outlets c.args.key c.requires.own) labels kept own order
