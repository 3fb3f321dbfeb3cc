use Rattle.std.proofs.Common.{sym, ◌∙◌}
use Rattle.std.specs.Prelude.{None}
use Rattle.std.proofs.lemmas.Result.{on_err_weaker}
use Rattle.pd_stage.specs.Choices.{Wanted, Edits}
use Rattle.pd_stage.specs.Leads.{Sinks, sinks}
use Rattle.pd_engine.specs.Stages.{stage_at}
use Rattle.pd_engine.proofs.CommandLemmas.{if_ok_weaker}
use Rattle.pd_engine.proofs.FollowLemmas.{alone_so, event_broke_first}
use Rattle.pd_engine.proofs.engine.Engine.edit_own.Goals as goal

pub put_loaded-requires : goal.put_loaded-requires
put_loaded-requires g c = sym c.puts_box.ensures ∙ c.if-puts_box.true

pub edit_alone-requires : goal.edit_alone-requires
edit_alone-requires g c = sym c.puts_box.ensures ∙ c.if-puts_box.false

pub returns-clause-ok : goal.returns-clause-ok
returns-clause-ok g c =
    let wanted : Wanted = Edits None c.args.path.now c.args.edit.now in
    if_ok_weaker c.edit_alone.result
    (λ o so samples.
    let x : Sinks = sinks (g.L.Sink.taken c.args.lines.now) samples c.args.steps.now (g.H.Shelf.holds c.args.shelf.now) (g.H.Shelf.faults c.args.shelf.now) in
    let y : Sinks = sinks (g.L.Sink.taken c.edit_alone.new.lines) samples c.edit_alone.new.steps (g.H.Shelf.holds c.edit_alone.new.shelf) (g.H.Shelf.faults c.edit_alone.new.shelf) in
    alone_so wanted o (stage_at c.args.self.now) (stage_at c.edit_alone.new.self) x y (so samples))
    c.edit_alone.ensures.ok

pub returns-clause-err : goal.returns-clause-err
returns-clause-err g c =
    let wanted : Wanted = Edits None c.args.path.now c.args.edit.now in
    on_err_weaker c.edit_alone.result
    (λ k samples.
    let x : Sinks = sinks (g.L.Sink.taken c.args.lines.now) samples c.args.steps.now (g.H.Shelf.holds c.args.shelf.now) (g.H.Shelf.faults c.args.shelf.now) in
    let y : Sinks = sinks (g.L.Sink.taken c.edit_alone.new.lines) samples c.edit_alone.new.steps (g.H.Shelf.holds c.edit_alone.new.shelf) (g.H.Shelf.faults c.edit_alone.new.shelf) in
    event_broke_first wanted (stage_at c.args.self.now) x y (k samples))
    c.edit_alone.ensures.err
