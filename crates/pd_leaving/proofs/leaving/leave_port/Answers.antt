use Rattle.pd_web.specs.Jacks.{jacks_at}
use Rattle.pd_leaving.proofs.LowerLemmas.{one_lowered}
use Rattle.pd_leaving.proofs.leaving.leave_port.Goals as goal

pub returns-clause-lowers : goal.returns-clause-lowers
returns-clause-lowers c = λ before at jack had more.
    one_lowered c.args.web.now c.follow_ports.new.web c.args.holder c.args.side before at jack had more (jacks_at c.args.side c.args.grove.now c.args.holder) c.follow_ports.ensures.follows
    c.requires.meet c.requires.gone c.laws.ensures.fans c.laws.ensures.feeds
