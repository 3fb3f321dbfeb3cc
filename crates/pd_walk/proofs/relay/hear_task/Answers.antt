use Rattle.std.specs.List.{slice_range}
use Rattle.pd_hearing.specs.declared.briefs.Reaction.TheVariants as reaction
use Rattle.pd_hearing.specs.Worlds.{net_of, kept_of}
use Rattle.pd_walk.proofs.StayLemmas.{stay-then}
use Rattle.pd_walk.proofs.RelayLemmas.{same-stay, brief-stay, task-leads, task-silent, task-goes}
use Rattle.pd_walk.proofs.relay.hear_task.Goals as goal

pub returns-in-Unheard-clause-states : goal.returns-in-Unheard-clause-states
returns-in-Unheard-clause-states c = same-stay _ _ c.in-Unheard.ensures.stays

pub returns-in-Silent-clause-states : goal.returns-in-Silent-clause-states
returns-in-Silent-clause-states c = brief-stay (net_of c.args.patch.now) _ _ c.args.node c.args.inlet c.in-Some.found c.hear_brief.new.message reaction.Silent c.in-Silent.ensures.heard

pub returns-in-Silent-clause-goes : goal.returns-in-Silent-clause-goes
returns-in-Silent-clause-goes c = λ now names queue tasks is two left.
    let a = c.args in
    task-silent (net_of a.patch.now) now (kept_of a.patch.now names queue) (kept_of c.hear_brief.new.patch names queue) a.budget.now _ _ a.stack.now tasks
    (task-leads (net_of a.patch.now) now a.patch.now c.hear_brief.new.patch names queue a.budget.now a.task.now.place a.task.now.depth a.node a.inlet a.task.now.selector (slice_range a.stack.now.atoms a.task.now.first a.task.now.after) c.atoms.result.now
    c.in-Some.found c.hear_brief.new.message reaction.Silent c.requires.uncut c.requires.more c.requires.depth c.in-Silent.ensures.inner c.hear_brief.ensures.clocks c.requires.place c.in-Some.ensures.selector
    c.atoms.ensures c.in-Some.ensures.atoms (c.in-Silent.ensures.heard names now two)) left

pub returns-in-Says-clause-states : goal.returns-in-Says-clause-states
returns-in-Says-clause-states c =
    stay-then _ _ _ (brief-stay (net_of c.args.patch.now) _ _ c.args.node c.args.inlet c.in-Some.found c.hear_brief.new.message reaction.Says c.in-Says.ensures.heard) c.go_on.ensures.states

pub returns-in-Says-clause-goes : goal.returns-in-Says-clause-goes
returns-in-Says-clause-goes c = λ now names queue tasks is two left.
    let a = c.args in
    task-goes (net_of a.patch.now) (net_of c.hear_brief.new.patch) now (kept_of a.patch.now names queue) (kept_of c.hear_brief.new.patch names queue) (kept_of c.go_on.new.patch names queue) a.budget.now _ c.go_on.new.budget _
    a.task.now.depth a.node c.hear_brief.new.message a.stack.now c.go_on.new.stack tasks c.hear_brief.ensures.net
    (task-leads (net_of a.patch.now) now a.patch.now c.hear_brief.new.patch names queue a.budget.now a.task.now.place a.task.now.depth a.node a.inlet a.task.now.selector (slice_range a.stack.now.atoms a.task.now.first a.task.now.after) c.atoms.result.now
    c.in-Some.found c.hear_brief.new.message reaction.Says c.requires.uncut c.requires.more c.requires.depth c.in-Says.ensures.inner c.hear_brief.ensures.clocks c.requires.place c.in-Some.ensures.selector
    c.atoms.ensures c.in-Some.ensures.atoms (c.in-Says.ensures.heard names now two))
    (λ l. c.go_on.ensures.goes now names queue tasks two l) left
