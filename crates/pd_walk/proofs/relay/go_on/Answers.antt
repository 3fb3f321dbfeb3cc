use Rattle.std.proofs.Common.{[]}
use Rattle.pd_hearing.specs.Worlds.{net_of, kept_of}
use Rattle.pd_walk.specs.Relays.{saying_tasks}
use Rattle.pd_walk.proofs.RelayLemmas.{goes-with, goes-without}
use Rattle.pd_walk.proofs.relay.go_on.Goals as goal

pub returns-in-Some-clause-goes : goal.returns-in-Some-clause-goes
returns-in-Some-clause-goes c = λ now names queue tasks two left.
    let net = net_of c.args.patch.now in
    goes-with net now (kept_of c.args.patch.now names queue) (kept_of c.relay.new.patch names queue) c.args.budget.now c.relay.new.budget (saying_tasks net c.args.saying.now) tasks c.in-Some.rest c.push_rest.new.stack
    (c.in-Some.ensures.relayed now names queue [] two) (λ here goes. c.push_rest.ensures.left net here tasks goes left)

pub returns-in-None-clause-goes : goal.returns-in-None-clause-goes
returns-in-None-clause-goes c = λ now names queue tasks two left.
    let net = net_of c.args.patch.now in
    goes-without net now (kept_of c.args.patch.now names queue) (kept_of c.relay.new.patch names queue) c.args.budget.now c.relay.new.budget (saying_tasks net c.args.saying.now) tasks c.args.stack.now
    (c.in-None.ensures.relayed now names queue [] two) left
