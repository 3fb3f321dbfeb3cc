use Rattle.std.specs.Prelude.{None}
use Rattle.std.proofs.lemmas.Result.{err_from_is_err_and}
use Rattle.pd_stage.specs.Choices.{Wanted, Edits}
use Rattle.pd_stage.specs.Leads.{Sinks, sinks}
use Rattle.pd_engine.specs.Stages.{stage_at}
use Rattle.pd_engine.proofs.FollowLemmas.{event_so, event_broke, event_broke_first}
use Rattle.pd_engine.proofs.engine.Engine.put_loaded.Goals as goal

pub returns-in_err-outcome-clause-err : goal.returns-in_err-outcome-clause-err
returns-in_err-outcome-clause-err g c =
    let p = err_from_is_err_and c.from_residual.result c.from_residual.ensures.1 in
    let wanted : Wanted = Edits None c.args.path.now c.args.edit.now in
    rw p.1
    (λ samples.
    let x : Sinks = sinks (g.L.Sink.taken c.args.lines.now) samples c.args.steps.now (g.H.Shelf.holds c.args.shelf.now) (g.H.Shelf.faults c.args.shelf.now) in
    let y : Sinks = sinks (g.L.Sink.taken c.put_own.new.lines) samples c.put_own.new.steps (g.H.Shelf.holds c.put_own.new.shelf) (g.H.Shelf.faults c.put_own.new.shelf) in
    event_broke_first wanted (stage_at c.args.self.now) x y (c.in_err-outcome.ensures.err samples))

pub returns-in_err-follow_edit-clause-err : goal.returns-in_err-follow_edit-clause-err
returns-in_err-follow_edit-clause-err g c =
    let p = err_from_is_err_and c.from_residual-in_err-follow_edit.result c.from_residual-in_err-follow_edit.ensures.1 in
    let wanted : Wanted = Edits None c.args.path.now c.args.edit.now in
    rw p.1
    (λ samples.
    let x : Sinks = sinks (g.L.Sink.taken c.args.lines.now) samples c.args.steps.now (g.H.Shelf.holds c.args.shelf.now) (g.H.Shelf.faults c.args.shelf.now) in
    let y : Sinks = sinks (g.L.Sink.taken c.put_own.new.lines) samples c.put_own.new.steps (g.H.Shelf.holds c.put_own.new.shelf) (g.H.Shelf.faults c.put_own.new.shelf) in
    let z : Sinks = sinks (g.L.Sink.taken c.follow_edit.new.lines) samples c.follow_edit.new.steps (g.H.Shelf.holds c.follow_edit.new.shelf) (g.H.Shelf.faults c.follow_edit.new.shelf) in
    event_broke wanted c.in_ok-outcome.outcome c.put_own.new.self.loads.items (stage_at c.args.self.now) (stage_at c.put_own.new.self) x y z (c.in_ok-outcome.ensures.ok samples) (c.in_err-follow_edit.ensures.err samples))

pub returns-clause-ok : goal.returns-clause-ok
returns-clause-ok g c = λ samples.
    let wanted : Wanted = Edits None c.args.path.now c.args.edit.now in
    let x : Sinks = sinks (g.L.Sink.taken c.args.lines.now) samples c.args.steps.now (g.H.Shelf.holds c.args.shelf.now) (g.H.Shelf.faults c.args.shelf.now) in
    let y : Sinks = sinks (g.L.Sink.taken c.put_own.new.lines) samples c.put_own.new.steps (g.H.Shelf.holds c.put_own.new.shelf) (g.H.Shelf.faults c.put_own.new.shelf) in
    let z : Sinks = sinks (g.L.Sink.taken c.follow_edit.new.lines) samples c.follow_edit.new.steps (g.H.Shelf.holds c.follow_edit.new.shelf) (g.H.Shelf.faults c.follow_edit.new.shelf) in
    event_so wanted c.in_ok-outcome.outcome c.put_own.new.self.loads.items (stage_at c.args.self.now) (stage_at c.put_own.new.self) x y z (c.in_ok-outcome.ensures.ok samples) (stage_at c.follow_edit.new.self)
    (c.in_ok-follow_edit.ensures.ok samples)
