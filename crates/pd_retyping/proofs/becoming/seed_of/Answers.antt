use Rattle.pd_retyping.proofs.SeedLemmas.{next_stand, next_fresh, next_leaf, never_none}
use Rattle.pd_retyping.proofs.becoming.seed_of.Goals as goal

pub returns-clause-stand : goal.returns-clause-stand
returns-clause-stand c =
    next_stand c.args.rows.items c.in_ok-seeds.seeds c.next.new.self c.in-Some.seed c.requires.one c.in_ok-seeds.ensures.ready c.in-Some.ensures

pub returns-clause-fresh : goal.returns-clause-fresh
returns-clause-fresh c = next_fresh c.args.rate c.args.now c.in_ok-seeds.seeds c.next.new.self c.in-Some.seed c.in_ok-seeds.ensures.fresh c.in-Some.ensures

pub returns-clause-leaf : goal.returns-clause-leaf
returns-clause-leaf c = λ sheet boxes.
    next_leaf c.in_ok-seeds.seeds c.next.new.self c.in-Some.seed c.in_ok-seeds.ensures.roomy c.in_ok-seeds.ensures.small c.in-Some.ensures sheet boxes

pub unreachable-requires : goal.unreachable-requires
unreachable-requires c = never_none c.args.rows.items c.in_ok-seeds.seeds c.requires.one c.in_ok-seeds.ensures.ready c.in-None.ensures.0
