use Rattle.std.proofs.Common.{arith, refl, ap, ◌∙◌, subst, inl, List, ℕ, Option, OnErr, IfOk}
use Rattle.std.specs.Prelude.{None}
use Rattle.std.proofs.lemmas.Result.{on_err_weaker}
use Rattle.pd_canvas.specs.declared.edits.Edit.{Edit}
use Rattle.pd_script.specs.Edits.{puts_box}
use Rattle.pd_wiring.specs.declared.refusals.EditRefusal.TheVariants.{NoMemory}
use Rattle.pd_stage.specs.Choices.{Edits}
use Rattle.pd_stage.specs.Events.{edit_taken}
use Rattle.pd_stage.specs.Leads.{sinks, Stops}
use Rattle.pd_engine.specs.Edits.{IsEdited}
use Rattle.pd_engine.specs.Stages.{stage_at}
use Rattle.pd_engine.proofs.CommandLemmas.{if_ok_weaker}
use Rattle.pd_engine.proofs.RewireLemmas.{ready_sure}
use Rattle.pd_engine.proofs.PuttingLemmas.{no_fault, unput_answered, unput_torn}
use Rattle.pd_engine.proofs.engine.Engine.put_own.Goals as goal

pub put_copied-requires-clause-puts : goal.put_copied-requires-clause-puts
put_copied-requires-clause-puts g c = ap (λ (x : Edit). puts_box x) c.in-Ok.ensures ∙ c.requires.puts

pub returns-in-Ok-clause-ok : goal.returns-in-Ok-clause-ok
returns-in-Ok-clause-ok g c =
    subst
    (λ (x : Edit). IfOk c.put_copied.result (λ o. (samples : Option (List ℕ)) → IsEdited c.args.path.now x o c.put_copied.new.self.loads.items (stage_at c.args.self.now) (stage_at c.put_copied.new.self)
    (sinks (g.L.Sink.taken c.args.lines.now) samples c.args.steps.now (g.H.Shelf.holds c.args.shelf.now) (g.H.Shelf.faults c.args.shelf.now))
    (sinks (g.L.Sink.taken c.put_copied.new.lines) samples c.put_copied.new.steps (g.H.Shelf.holds c.put_copied.new.shelf) (g.H.Shelf.faults c.put_copied.new.shelf))))
    c.in-Ok.ensures (if_ok_weaker c.put_copied.result (λ o so. so (Edits None c.args.path.now c.in-Ok.edit) (inl refl)) c.put_copied.ensures.ok)

pub returns-in-Ok-clause-err : goal.returns-in-Ok-clause-err
returns-in-Ok-clause-err g c =
    subst
    (λ (x : Edit). OnErr c.put_copied.result ((samples : Option (List ℕ)) → Stops (edit_taken (Edits None c.args.path.now x)) (stage_at c.args.self.now)
    (sinks (g.L.Sink.taken c.args.lines.now) samples c.args.steps.now (g.H.Shelf.holds c.args.shelf.now) (g.H.Shelf.faults c.args.shelf.now))
    (sinks (g.L.Sink.taken c.put_copied.new.lines) samples c.put_copied.new.steps (g.H.Shelf.holds c.put_copied.new.shelf) (g.H.Shelf.faults c.put_copied.new.shelf))))
    c.in-Ok.ensures (on_err_weaker c.put_copied.result (λ so. so (Edits None c.args.path.now c.in-Ok.edit) (inl refl)) c.put_copied.ensures.err)

pub returns-in-Err-clause-ok : goal.returns-in-Err-clause-ok
returns-in-Err-clause-ok g c =
    let e = c.args.self.now in
    if_ok_weaker c.tell.result (λ o so. so (Edits None c.args.path.now c.args.edit.now) (inl refl))
    (unput_answered c.tell.result c.args.path.now c.args.edit.now c.requires.puts e.file.items e.symbols e.library e.counts e.time e.block_end e.fired e.tally e.patch e.patch (ready_sure e.patch e.puts e.meet)
    (g.L.Sink.taken c.args.lines.now) (g.L.Sink.taken c.tell.new.lines) c.args.steps.now c.args.steps.now (g.H.Shelf.holds c.args.shelf.now) (g.H.Shelf.holds c.args.shelf.now)
    (g.H.Shelf.faults c.args.shelf.now) (g.H.Shelf.faults c.args.shelf.now) refl (omega arith) (stage_at c.tell.new.self) c.tell.new.self.loads.items NoMemory (λ is. absurd (no_fault is)) refl (inl (refl, inl refl))
    e.symbols e.library refl refl c.tell.ensures.stage (ap (λ v. v.items) c.tell.ensures.loads ∙ c.requires.empty) c.tell.ensures.ok c.tell.ensures.answer)

pub returns-in-Err-clause-err : goal.returns-in-Err-clause-err
returns-in-Err-clause-err g c =
    let e = c.args.self.now in
    on_err_weaker c.tell.result (λ so. so (Edits None c.args.path.now c.args.edit.now) (inl refl))
    (unput_torn c.tell.result c.args.path.now c.args.edit.now c.requires.puts e.file.items e.symbols e.library e.counts e.time e.block_end e.fired e.tally e.patch e.patch (ready_sure e.patch e.puts e.meet)
    (g.L.Sink.taken c.args.lines.now) (g.L.Sink.taken c.tell.new.lines) c.args.steps.now c.args.steps.now (g.H.Shelf.holds c.args.shelf.now) (g.H.Shelf.holds c.args.shelf.now)
    (g.H.Shelf.faults c.args.shelf.now) (g.H.Shelf.faults c.args.shelf.now) refl (omega arith) (stage_at c.tell.new.self) c.tell.new.self.loads.items NoMemory (λ is. absurd (no_fault is)) refl (inl (refl, inl refl)) c.tell.ensures.err)
