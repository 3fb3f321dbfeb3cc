use Rattle.std.proofs.Common.{refl, sym, ◌∙◌, ap, List, ℕ}
use Rattle.std.proofs.lemmas.Result.{on_ok_weaker, on_err_weaker}
use Rattle.pd_atom.specs.declared.Atom.{Atom}
use Rattle.pd_script.specs.declared.commands.Command.{Command}
use Rattle.pd_stage.specs.Choices.{Edits, Saves, Undoes, Redoes}
use Rattle.pd_stage.specs.Stages.{saying}
use Rattle.pd_stage.specs.Leads.{sinks}
use Rattle.pd_stage.specs.Events.{edit_event}
use Rattle.pd_engine.specs.Stages.{stage_at}
use Rattle.pd_engine.specs.Commands.{commanded, answered, sent, shown}
use Rattle.pd_engine.proofs.CommandLemmas.{comes_carried, says_carried, event_carried, alone_carried, part_stops, taken_stops, alone_stops, if_ok_weaker}
use Rattle.pd_engine.proofs.engine.Engine.carry_out.Goals as goal

pub returns-in-Send-clause-ok : goal.returns-in-Send-clause-ok
unfolding commanded
returns-in-Send-clause-ok g c =
    comes_carried c.send.result c.args.cmd.now (sent c.in-Send.name c.as_slice.result.now) (stage_at c.args.self.now) (stage_at c.send.new.self)
    (λ samples. sinks (g.L.Sink.taken c.args.lines.now) samples c.args.steps.now (g.H.Shelf.holds c.args.shelf.now) (g.H.Shelf.faults c.args.shelf.now))
    (λ samples. sinks (g.L.Sink.taken c.send.new.lines) samples c.send.new.steps (g.H.Shelf.holds c.send.new.shelf) (g.H.Shelf.faults c.send.new.shelf))
    (λ s. ap (λ (x : Command). commanded x s) c.in-Send.is ∙ ap (λ (a : List Atom). sent c.in-Send.name a s) (sym c.as_slice.ensures))
    (λ edits. ap (λ (x : Command). answered x edits) c.in-Send.is) c.send.ensures.ok c.send.ensures.answer

pub returns-in-Show-clause-ok : goal.returns-in-Show-clause-ok
unfolding commanded
returns-in-Show-clause-ok g c =
    says_carried c.show_at.result c.args.cmd.now (λ s. saying s (shown s.net c.as_slice-in-Show.result.now)) (stage_at c.args.self.now) (stage_at c.show_at.new.self) (g.L.Sink.taken c.args.lines.now) (g.L.Sink.taken c.show_at.new.lines) c.args.steps.now c.args.steps.now
    (g.H.Shelf.holds c.args.shelf.now) (g.H.Shelf.faults c.args.shelf.now) (λ s. ap (λ (x : Command). commanded x s) c.in-Show.is ∙ ap (λ (p : List ℕ). saying s (shown s.net p)) (sym c.as_slice-in-Show.ensures))
    (λ edits. ap (λ (x : Command). answered x edits) c.in-Show.is) (on_ok_weaker c.show_at.result (λ k. k c.args.steps.now) c.show_at.ensures.ok) c.show_at.ensures.answer

pub returns-in-Edit-clause-ok : goal.returns-in-Edit-clause-ok
unfolding commanded
returns-in-Edit-clause-ok g c =
    event_carried c.edit_at.result c.args.cmd.now (Edits c.in-Edit.place.document c.in-Edit.place.path c.in-Edit.edit) (stage_at c.args.self.now) (stage_at c.edit_at.new.self) (λ samples. sinks (g.L.Sink.taken c.args.lines.now) samples c.args.steps.now (g.H.Shelf.holds c.args.shelf.now) (g.H.Shelf.faults c.args.shelf.now))
    (λ samples. sinks (g.L.Sink.taken c.edit_at.new.lines) samples c.edit_at.new.steps (g.H.Shelf.holds c.edit_at.new.shelf) (g.H.Shelf.faults c.edit_at.new.shelf)) (λ s. ap (λ (x : Command). commanded x s) c.in-Edit.is)
    (λ edits. ap (λ (x : Command). answered x edits) c.in-Edit.is) c.edit_at.ensures.ok

pub returns-in-Save-clause-ok : goal.returns-in-Save-clause-ok
unfolding commanded
returns-in-Save-clause-ok g c =
    alone_carried c.save_at.result c.args.cmd.now (Saves c.in-Save.document) (stage_at c.args.self.now) (stage_at c.save_at.new.self) (λ samples. sinks (g.L.Sink.taken c.args.lines.now) samples c.args.steps.now (g.H.Shelf.holds c.args.shelf.now) (g.H.Shelf.faults c.args.shelf.now)) (λ samples. sinks (g.L.Sink.taken c.save_at.new.lines) samples c.args.steps.now (g.H.Shelf.holds c.save_at.new.shelf) (g.H.Shelf.faults c.save_at.new.shelf)) (λ s. ap (λ (x : Command). commanded x s) c.in-Save.is)
    (λ edits. ap (λ (x : Command). answered x edits) c.in-Save.is) (if_ok_weaker c.save_at.result (λ o so samples. so samples c.args.steps.now) c.save_at.ensures.ok)

pub returns-in-Undo-clause-ok : goal.returns-in-Undo-clause-ok
unfolding commanded
returns-in-Undo-clause-ok g c =
    alone_carried c.refuse.result c.args.cmd.now Undoes (stage_at c.args.self.now) (stage_at c.refuse.new.self) (λ samples. sinks (g.L.Sink.taken c.args.lines.now) samples c.args.steps.now (g.H.Shelf.holds c.args.shelf.now) (g.H.Shelf.faults c.args.shelf.now)) (λ samples. sinks (g.L.Sink.taken c.refuse.new.lines) samples c.args.steps.now (g.H.Shelf.holds c.args.shelf.now) (g.H.Shelf.faults c.args.shelf.now)) (λ s. ap (λ (x : Command). commanded x s) c.in-Undo.is)
    (λ edits. ap (λ (x : Command). answered x edits) c.in-Undo.is) (if_ok_weaker c.refuse.result (λ o so samples. so Undoes refl refl samples c.args.steps.now (g.H.Shelf.holds c.args.shelf.now) (g.H.Shelf.faults c.args.shelf.now)) c.refuse.ensures.ok)

pub returns-in-Undo-clause-err : goal.returns-in-Undo-clause-err
unfolding commanded
returns-in-Undo-clause-err g c =
    alone_stops c.refuse.result c.args.cmd.now Undoes (stage_at c.args.self.now)
    (λ samples. sinks (g.L.Sink.taken c.args.lines.now) samples c.args.steps.now (g.H.Shelf.holds c.args.shelf.now) (g.H.Shelf.faults c.args.shelf.now))
    (λ samples. sinks (g.L.Sink.taken c.refuse.new.lines) samples c.args.steps.now (g.H.Shelf.holds c.args.shelf.now) (g.H.Shelf.faults c.args.shelf.now))
    (λ s. ap (λ (x : Command). commanded x s) c.in-Undo.is)
    (on_err_weaker c.refuse.result (λ k samples. k Undoes refl refl c.args.steps.now samples (g.H.Shelf.holds c.args.shelf.now) (g.H.Shelf.faults c.args.shelf.now)) c.refuse.ensures.err)

pub returns-in-Redo-clause-ok : goal.returns-in-Redo-clause-ok
unfolding commanded
returns-in-Redo-clause-ok g c =
    alone_carried c.refuse-in-Redo.result c.args.cmd.now Redoes (stage_at c.args.self.now) (stage_at c.refuse-in-Redo.new.self) (λ samples. sinks (g.L.Sink.taken c.args.lines.now) samples c.args.steps.now (g.H.Shelf.holds c.args.shelf.now) (g.H.Shelf.faults c.args.shelf.now)) (λ samples. sinks (g.L.Sink.taken c.refuse-in-Redo.new.lines) samples c.args.steps.now (g.H.Shelf.holds c.args.shelf.now) (g.H.Shelf.faults c.args.shelf.now)) (λ s. ap (λ (x : Command). commanded x s) c.in-Redo.is)
    (λ edits. ap (λ (x : Command). answered x edits) c.in-Redo.is) (if_ok_weaker c.refuse-in-Redo.result (λ o so samples. so Redoes refl refl samples c.args.steps.now (g.H.Shelf.holds c.args.shelf.now) (g.H.Shelf.faults c.args.shelf.now)) c.refuse-in-Redo.ensures.ok)

pub returns-in-Redo-clause-err : goal.returns-in-Redo-clause-err
unfolding commanded
returns-in-Redo-clause-err g c =
    alone_stops c.refuse-in-Redo.result c.args.cmd.now Redoes (stage_at c.args.self.now)
    (λ samples. sinks (g.L.Sink.taken c.args.lines.now) samples c.args.steps.now (g.H.Shelf.holds c.args.shelf.now) (g.H.Shelf.faults c.args.shelf.now))
    (λ samples. sinks (g.L.Sink.taken c.refuse-in-Redo.new.lines) samples c.args.steps.now (g.H.Shelf.holds c.args.shelf.now) (g.H.Shelf.faults c.args.shelf.now))
    (λ s. ap (λ (x : Command). commanded x s) c.in-Redo.is)
    (on_err_weaker c.refuse-in-Redo.result (λ k samples. k Redoes refl refl c.args.steps.now samples (g.H.Shelf.holds c.args.shelf.now) (g.H.Shelf.faults c.args.shelf.now)) c.refuse-in-Redo.ensures.err)

pub returns-in-Send-clause-err : goal.returns-in-Send-clause-err
unfolding commanded
returns-in-Send-clause-err g c =
    taken_stops c.send.result c.args.cmd.now (sent c.in-Send.name c.as_slice.result.now) (stage_at c.args.self.now)
    (λ samples. sinks (g.L.Sink.taken c.args.lines.now) samples c.args.steps.now (g.H.Shelf.holds c.args.shelf.now) (g.H.Shelf.faults c.args.shelf.now))
    (λ samples. sinks (g.L.Sink.taken c.send.new.lines) samples c.send.new.steps (g.H.Shelf.holds c.send.new.shelf) (g.H.Shelf.faults c.send.new.shelf))
    (λ s. ap (λ (x : Command). commanded x s) c.in-Send.is ∙ ap (λ (a : List Atom). sent c.in-Send.name a s) (sym c.as_slice.ensures)) c.send.ensures.err

pub returns-in-Show-clause-err : goal.returns-in-Show-clause-err
unfolding commanded
returns-in-Show-clause-err g c =
    part_stops c.show_at.result c.args.cmd.now (λ s. saying s (shown s.net c.as_slice-in-Show.result.now)) (stage_at c.args.self.now) (g.L.Sink.taken c.args.lines.now) (g.L.Sink.taken c.show_at.new.lines) c.args.steps.now c.args.steps.now
    (g.H.Shelf.holds c.args.shelf.now) (g.H.Shelf.faults c.args.shelf.now) (λ s. ap (λ (x : Command). commanded x s) c.in-Show.is ∙ ap (λ (p : List ℕ). saying s (shown s.net p)) (sym c.as_slice-in-Show.ensures))
    (on_err_weaker c.show_at.result (λ k. k c.args.steps.now) c.show_at.ensures.err)

pub returns-in-Edit-clause-err : goal.returns-in-Edit-clause-err
unfolding commanded
returns-in-Edit-clause-err g c =
    taken_stops c.edit_at.result c.args.cmd.now (edit_event (Edits c.in-Edit.place.document c.in-Edit.place.path c.in-Edit.edit)) (stage_at c.args.self.now) (λ samples. sinks (g.L.Sink.taken c.args.lines.now) samples c.args.steps.now (g.H.Shelf.holds c.args.shelf.now) (g.H.Shelf.faults c.args.shelf.now))
    (λ samples. sinks (g.L.Sink.taken c.edit_at.new.lines) samples c.edit_at.new.steps (g.H.Shelf.holds c.edit_at.new.shelf) (g.H.Shelf.faults c.edit_at.new.shelf)) (λ s. ap (λ (x : Command). commanded x s) c.in-Edit.is) c.edit_at.ensures.err

pub returns-in-Save-clause-err : goal.returns-in-Save-clause-err
unfolding commanded
returns-in-Save-clause-err g c =
    alone_stops c.save_at.result c.args.cmd.now (Saves c.in-Save.document) (stage_at c.args.self.now) (λ samples. sinks (g.L.Sink.taken c.args.lines.now) samples c.args.steps.now (g.H.Shelf.holds c.args.shelf.now) (g.H.Shelf.faults c.args.shelf.now)) (λ samples. sinks (g.L.Sink.taken c.save_at.new.lines) samples c.args.steps.now (g.H.Shelf.holds c.save_at.new.shelf) (g.H.Shelf.faults c.save_at.new.shelf)) (λ s. ap (λ (x : Command). commanded x s) c.in-Save.is)
    (on_err_weaker c.save_at.result (λ k samples. k samples c.args.steps.now) c.save_at.ensures.err)
