use Rattle.pd_following.proofs.RaiseLemmas.{one_raised}
use Rattle.pd_following.proofs.following.follow_port.Goals as goal

pub returns-clause-raises : goal.returns-clause-raises
returns-clause-raises c = λ at jack more.
    one_raised c.args.web.now c.follow_ports.new.web c.args.holder c.args.side c.args.grove.now at jack more c.follow_ports.ensures.follows c.requires.meet c.laws.ensures.fans c.laws.ensures.feeds
