use Rattle.pd_grove.specs.declared.ports.Side.TheVariants.{Inlets, Outlets}
use Rattle.pd_web.specs.Sockets.{end_under}
use Rattle.pd_web.proofs.ChangeLemmas.{fan_hop_line, feed_hop_line, fan_once, fed_once}
use Rattle.pd_web.proofs.web.Web.laws.Goals as goal

pub returns-clause-fans : goal.returns-clause-fans
returns-clause-fans c = λ node outlet i h x. fan_hop_line c.args.self.now node outlet i h c.laws.ensures x

pub returns-clause-feeds : goal.returns-clause-feeds
returns-clause-feeds c = λ node inlet i h x. feed_hop_line c.args.self.now node inlet i h c.laws.ensures x

pub returns-clause-once : goal.returns-clause-once
returns-clause-once c = λ node outlet i j k p q.
    let w = c.args.self.now in fan_once w.book (end_under w.sockets.items Outlets node outlet) i j k c.laws.ensures p q

pub returns-clause-once_fed : goal.returns-clause-once_fed
returns-clause-once_fed c = λ node inlet i j k p q.
    let w = c.args.self.now in fed_once w.book (end_under w.sockets.items Inlets node inlet) i j k c.laws.ensures p q
