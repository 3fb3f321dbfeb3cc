use Rattle.std.proofs.Common.{◌+◌, refl}
use Rattle.pd_hearing.specs.declared.briefs.Reaction.TheVariants.{Silent, Says}
use Rattle.pd_hearing.specs.Worlds.{net_of, states_of}
use Rattle.pd_walk.specs.Relays.{saying_at}
use Rattle.pd_walk.proofs.RelayLemmas.{heard-along}
use Rattle.pd_walk.proofs.relay.step_along.Goals as goal

pub returns-in-Silent-clause-stepped : goal.returns-in-Silent-clause-stepped
returns-in-Silent-clause-stepped c = λ depth.
    heard-along (net_of c.args.patch.now) (states_of c.args.patch.now) (states_of c.hear_brief.new.patch) (saying_at depth c.args.node.now c.args.message.now)
    (saying_at (depth + 1) c.args.node.now c.hear_brief.new.message) Silent c.route_of-route.result (c.route_of-route.ensures c.args.patch.now.web c.requires.route)
    c.in-Silent.ensures.inner c.in-Silent.ensures.heard (λ e. cc)

pub returns-in-Says-clause-stepped : goal.returns-in-Says-clause-stepped
returns-in-Says-clause-stepped c = λ depth.
    heard-along (net_of c.args.patch.now) (states_of c.args.patch.now) (states_of c.hear_brief.new.patch) (saying_at depth c.args.node.now c.args.message.now)
    (saying_at (depth + 1) c.route_of-route.result.to c.hear_brief.new.message) Says c.route_of-route.result (c.route_of-route.ensures c.args.patch.now.web c.requires.route)
    c.in-Says.ensures.inner c.in-Says.ensures.heard (λ _. refl)
