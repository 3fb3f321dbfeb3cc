use Rattle.std.proofs.Common.{◌++◌, ℕ, List, sym, ◌∙◌, subst, OnOk, OnErr}
use Rattle.std.specs.List.{slice_range}
use Rattle.pd_say.specs.Gathering.{Says, Fails}
use Rattle.pd_hearing.specs.Worlds.{net_of, kept_of}
use Rattle.pd_stack.specs.Tasks.{Task}
use Rattle.pd_stack.specs.Piles.{LeftOn}
use Rattle.pd_hearing.proofs.ResultLemmas.{on_ok_map}
use Rattle.pd_walk.proofs.ActLemmas.{inlet-kept, inlet-said, inlet-caused, again-kept, again-said, again-caused}
use Rattle.pd_walk.proofs.StayLemmas.{all-stay}
use Rattle.pd_walk.proofs.acting.perform.Goals as goal

-- a message comes to a box
pub returns-in-Inlet-clause-kept : goal.returns-in-Inlet-clause-kept
returns-in-Inlet-clause-kept g c =
    let a = c.args in
    on_ok_map c.deliver_at.result
    (λ e. e ∙ sym (inlet-kept (net_of a.patch.now) a.now (kept_of a.patch.now a.symbols.now a.queue.now) a.task.now.place a.task.now.depth a.task.now.selector
    (slice_range a.stack.now.atoms a.task.now.first a.task.now.after) c.in-Inlet.node c.in-Inlet.inlet c.in-Inlet.is))
    (c.deliver_at.ensures.kept a.queue.now)

pub returns-in-Inlet-clause-ok : goal.returns-in-Inlet-clause-ok
returns-in-Inlet-clause-ok g c =
    let a = c.args in
    subst (λ (l : List ℕ). OnOk c.deliver_at.result (Says (g.L.Sink.taken a.lines.now) a.held.now.items (g.L.Sink.taken c.deliver_at.new.lines) c.deliver_at.new.held.items l))
    (sym (inlet-said (net_of a.patch.now) a.now (kept_of a.patch.now a.symbols.now a.queue.now) a.task.now.place a.task.now.depth a.task.now.selector
    (slice_range a.stack.now.atoms a.task.now.first a.task.now.after) c.in-Inlet.node c.in-Inlet.inlet c.in-Inlet.is))
    c.deliver_at.ensures.ok

pub returns-in-Inlet-clause-err : goal.returns-in-Inlet-clause-err
returns-in-Inlet-clause-err g c =
    let a = c.args in
    subst (λ (l : List ℕ). OnErr c.deliver_at.result (Fails (g.L.Sink.taken a.lines.now) a.held.now.items (g.L.Sink.taken c.deliver_at.new.lines) l))
    (sym (inlet-said (net_of a.patch.now) a.now (kept_of a.patch.now a.symbols.now a.queue.now) a.task.now.place a.task.now.depth a.task.now.selector
    (slice_range a.stack.now.atoms a.task.now.first a.task.now.after) c.in-Inlet.node c.in-Inlet.inlet c.in-Inlet.is))
    c.deliver_at.ensures.err

pub returns-in-Inlet-clause-left : goal.returns-in-Inlet-clause-left
returns-in-Inlet-clause-left g c = λ tasks left.
    let a = c.args in
    subst (λ (l : List Task). OnOk c.deliver_at.result (LeftOn (net_of a.patch.now) c.deliver_at.new.stack (l ++ tasks)))
    (sym (inlet-caused (net_of a.patch.now) a.now (kept_of a.patch.now a.symbols.now a.queue.now) a.task.now.place a.task.now.depth a.task.now.selector
    (slice_range a.stack.now.atoms a.task.now.first a.task.now.after) c.in-Inlet.node c.in-Inlet.inlet c.in-Inlet.is))
    (c.deliver_at.ensures.left tasks left)

-- a box is resumed
pub returns-in-Again-clause-kept : goal.returns-in-Again-clause-kept
returns-in-Again-clause-kept g c =
    let a = c.args in
    on_ok_map c.resume.result
    (λ e. e ∙ sym (again-kept (net_of a.patch.now) a.now (kept_of a.patch.now a.symbols.now a.queue.now) a.task.now.place a.task.now.depth a.task.now.selector
    (slice_range a.stack.now.atoms a.task.now.first a.task.now.after) c.in-Again.node c.in-Again.is))
    (c.resume.ensures.kept a.queue.now)

pub returns-in-Again-clause-ok : goal.returns-in-Again-clause-ok
returns-in-Again-clause-ok g c =
    let a = c.args in
    subst (λ (l : List ℕ). OnOk c.resume.result (Says (g.L.Sink.taken a.lines.now) a.held.now.items (g.L.Sink.taken c.resume.new.lines) c.resume.new.held.items l))
    (sym (again-said (net_of a.patch.now) a.now (kept_of a.patch.now a.symbols.now a.queue.now) a.task.now.place a.task.now.depth a.task.now.selector
    (slice_range a.stack.now.atoms a.task.now.first a.task.now.after) c.in-Again.node c.in-Again.is))
    c.resume.ensures.ok

pub returns-in-Again-clause-err : goal.returns-in-Again-clause-err
returns-in-Again-clause-err g c =
    let a = c.args in
    subst (λ (l : List ℕ). OnErr c.resume.result (Fails (g.L.Sink.taken a.lines.now) a.held.now.items (g.L.Sink.taken c.resume.new.lines) l))
    (sym (again-said (net_of a.patch.now) a.now (kept_of a.patch.now a.symbols.now a.queue.now) a.task.now.place a.task.now.depth a.task.now.selector
    (slice_range a.stack.now.atoms a.task.now.first a.task.now.after) c.in-Again.node c.in-Again.is))
    c.resume.ensures.err

pub returns-in-Again-clause-left : goal.returns-in-Again-clause-left
returns-in-Again-clause-left g c = λ tasks left.
    let a = c.args in
    subst (λ (l : List Task). OnOk c.resume.result (LeftOn (net_of a.patch.now) c.resume.new.stack (l ++ tasks)))
    (sym (again-caused (net_of a.patch.now) a.now (kept_of a.patch.now a.symbols.now a.queue.now) a.task.now.place a.task.now.depth a.task.now.selector
    (slice_range a.stack.now.atoms a.task.now.first a.task.now.after) c.in-Again.node c.in-Again.is))
    (c.resume.ensures.left tasks left)

pub returns-in-Canvas-clause-states : goal.returns-in-Canvas-clause-states
returns-in-Canvas-clause-states g c = all-stay _
