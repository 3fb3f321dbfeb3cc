use Rattle.std.proofs.Common.{length}
use Rattle.pd_web.specs.Hops.{fan_keys}
use Rattle.pd_web.proofs.ChangeLemmas.{stands_last}
use Rattle.pd_web.proofs.web.Web.join.Goals as goal

pub rejoin-requires-clause-route : goal.rejoin-requires-clause-route
rejoin-requires-clause-route c = c.requires.route

pub rejoin-requires-clause-room : goal.rejoin-requires-clause-room
rejoin-requires-clause-room c = c.requires.room

pub rejoin-requires-clause-fan_next : goal.rejoin-requires-clause-fan_next
rejoin-requires-clause-fan_next c =
    let keys = fan_keys c.args.self.now c.args.line.source c.args.line.outlet in (length keys, stands_last keys)

pub rejoin-requires-clause-feed_next : goal.rejoin-requires-clause-feed_next
rejoin-requires-clause-feed_next c = c.requires.next

pub returns : goal.returns
returns c = λ place h.
    let keys = fan_keys c.args.self.now c.args.line.source c.args.line.outlet in c.rejoin.ensures (length keys) place (stands_last keys) h
