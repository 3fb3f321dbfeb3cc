use Rattle.pd_walk.proofs.RelayLemmas.{brief-pushed}
use Rattle.pd_walk.proofs.relay.push_rest.Goals as goal

pub returns-clause-left : goal.returns-clause-left
returns-clause-left c = λ net here tasks goes left.
    brief-pushed net c.args.stack.now c.push_brief.new.stack c.push.new.self c.args.rest.now c.selector.result c.atom_count-floor.result c.atom_count-after.result here tasks c.requires.piled
    c.push_brief.ensures c.atom_count-floor.ensures c.atom_count-after.ensures c.selector.ensures c.push.ensures goes left
