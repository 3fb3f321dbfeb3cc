use Rattle.std.proofs.lemmas.Result.{err_from_is_err_and}
use Rattle.pd_stage.specs.Leads.{sinks}
use Rattle.pd_engine.specs.Stages.{stage_at}
use Rattle.pd_engine.proofs.CommandLemmas.{sent_says, sent_breaks_first, sent_breaks}
use Rattle.pd_engine.proofs.engine.Engine.send.Goals as goal

pub returns-in_err-say_cut-clause-err : goal.returns-in_err-say_cut-clause-err
returns-in_err-say_cut-clause-err g c =
    let p = err_from_is_err_and c.from_residual.result c.from_residual.ensures.1 in
    let s = stage_at c.args.self.now in
    rw p.1 (λ samples. sent_breaks_first s s s c.args.name 0 c.args.atoms.now c.args.atoms.now _ _ _ samples c.args.steps.now (g.H.Shelf.holds c.args.shelf.now) (g.H.Shelf.faults c.args.shelf.now) (sinks (g.L.Sink.taken c.args.lines.now) samples c.args.steps.now (g.H.Shelf.holds c.args.shelf.now) (g.H.Shelf.faults c.args.shelf.now)) c.message_of-formed.ensures.is_cut c.in_err-say_cut.ensures.err)

pub returns-in_err-run_event-clause-err : goal.returns-in_err-run_event-clause-err
returns-in_err-run_event-clause-err g c =
    let p = err_from_is_err_and c.from_residual-in_err-run_event.result c.from_residual-in_err-run_event.ensures.1 in
    let s = stage_at c.args.self.now in
    rw p.1
    (λ samples. sent_breaks s (stage_at c.say_cut.new.self) s c.args.name _ c.args.atoms.now _ _ _ _ samples c.args.steps.now (g.H.Shelf.holds c.args.shelf.now) (g.H.Shelf.faults c.args.shelf.now) _ c.message_of-formed.ensures.is_cut c.in_ok-say_cut.ensures.stage
    c.message_of-formed.ensures.selector c.message_of-formed.ensures.atoms c.in_ok-say_cut.ensures.ok (c.in_err-run_event.ensures.err samples))

pub returns-clause-ok : goal.returns-clause-ok
returns-clause-ok g c = λ samples.
    sent_says (stage_at c.args.self.now) (stage_at c.say_cut.new.self) (stage_at c.run_event.new.self) c.args.name _ c.args.atoms.now _ _ _ _ samples c.args.steps.now (g.H.Shelf.holds c.args.shelf.now) (g.H.Shelf.faults c.args.shelf.now) _
    c.message_of-formed.ensures.is_cut c.in_ok-say_cut.ensures.stage c.message_of-formed.ensures.selector c.message_of-formed.ensures.atoms c.in_ok-say_cut.ensures.ok
    (c.in_ok-run_event.ensures.ok samples)
