use Rattle.std.proofs.Common.{sym, subst}
use Rattle.std.proofs.lemmas.Result.{err_from_is_err_and, on_ok_weaker, on_err_weaker}
use Rattle.pd_queue.specs.Queue.{Waiting}
use Rattle.pd_stage.specs.Events.{Left}
use Rattle.pd_stage.specs.Leads.{Sinks, sinks}
use Rattle.pd_engine.specs.Edits.{AreAskedFor, left_of}
use Rattle.pd_engine.specs.Stages.{stage_at}
use Rattle.pd_engine.proofs.FollowLemmas.{follow_so, follow_broke, follow_broke_first}
use Rattle.pd_engine.proofs.engine.Engine.follow_edit.Goals as goal

pub load_made-requires : goal.load_made-requires
load_made-requires g c = subst (λ (q : Waiting). AreAskedFor q) (sym c.requires) tt

pub returns-in_err-load_made-clause-err : goal.returns-in_err-load_made-clause-err
returns-in_err-load_made-clause-err g c =
    let p = err_from_is_err_and c.from_residual.result c.from_residual.ensures.1 in
    rw p.1
    (λ samples.
    let x : Sinks = sinks (g.L.Sink.taken c.args.lines.now) samples c.args.steps.now (g.H.Shelf.holds c.args.shelf.now) (g.H.Shelf.faults c.args.shelf.now) in
    let y : Sinks = sinks (g.L.Sink.taken c.load_made.new.lines) samples c.args.steps.now (g.H.Shelf.holds c.args.shelf.now) (g.H.Shelf.faults c.args.shelf.now) in
    follow_broke_first c.args.self.now.loads.items c.new-left.result c.args.self.now.queue (stage_at c.args.self.now) x y y c.new-left.ensures c.requires
    (c.in_err-load_made.ensures.err samples c.args.steps.now (g.H.Shelf.holds c.args.shelf.now) (g.H.Shelf.faults c.args.shelf.now)))

pub returns-clause-ok : goal.returns-clause-ok
returns-clause-ok g c =
    let l : Left = left_of c.load_made.new.budget c.load_made.new.self.queue in
    on_ok_weaker c.take_queued.result
    (λ h samples.
    let x : Sinks = sinks (g.L.Sink.taken c.args.lines.now) samples c.args.steps.now (g.H.Shelf.holds c.args.shelf.now) (g.H.Shelf.faults c.args.shelf.now) in
    let y : Sinks = sinks (g.L.Sink.taken c.load_made.new.lines) samples c.args.steps.now (g.H.Shelf.holds c.args.shelf.now) (g.H.Shelf.faults c.args.shelf.now) in
    let z : Sinks = sinks (g.L.Sink.taken c.take_queued.new.lines) samples c.take_queued.new.steps (g.H.Shelf.holds c.take_queued.new.shelf) (g.H.Shelf.faults c.take_queued.new.shelf) in
    follow_so c.args.self.now.loads.items c.new-left.result c.args.self.now.queue (stage_at c.args.self.now) x y z c.new-left.ensures c.requires l (stage_at c.load_made.new.self)
    (c.in_ok-load_made.ensures.ok samples c.args.steps.now (g.H.Shelf.holds c.args.shelf.now) (g.H.Shelf.faults c.args.shelf.now)) (stage_at c.take_queued.new.self) (h samples))
    c.take_queued.ensures.ok

pub returns-clause-err : goal.returns-clause-err
returns-clause-err g c =
    let l : Left = left_of c.load_made.new.budget c.load_made.new.self.queue in
    on_err_weaker c.take_queued.result
    (λ h samples.
    let x : Sinks = sinks (g.L.Sink.taken c.args.lines.now) samples c.args.steps.now (g.H.Shelf.holds c.args.shelf.now) (g.H.Shelf.faults c.args.shelf.now) in
    let y : Sinks = sinks (g.L.Sink.taken c.load_made.new.lines) samples c.args.steps.now (g.H.Shelf.holds c.args.shelf.now) (g.H.Shelf.faults c.args.shelf.now) in
    let z : Sinks = sinks (g.L.Sink.taken c.take_queued.new.lines) samples c.take_queued.new.steps (g.H.Shelf.holds c.take_queued.new.shelf) (g.H.Shelf.faults c.take_queued.new.shelf) in
    follow_broke c.args.self.now.loads.items c.new-left.result c.args.self.now.queue (stage_at c.args.self.now) x y z c.new-left.ensures c.requires l (stage_at c.load_made.new.self)
    (c.in_ok-load_made.ensures.ok samples c.args.steps.now (g.H.Shelf.holds c.args.shelf.now) (g.H.Shelf.faults c.args.shelf.now)) (h samples))
    c.take_queued.ensures.err
