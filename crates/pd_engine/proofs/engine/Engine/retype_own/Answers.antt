use Rattle.std.proofs.Common.{arith, refl, sym, subst, inl, List, [], ℕ, Option, OnErr, IfOk}
use Rattle.std.specs.Prelude.{None}
use Rattle.pd_canvas.specs.declared.edits.Edit.{Edit}
use Rattle.pd_wiring.specs.declared.refusals.EditRefusal.TheVariants.{NoMemory}
use Rattle.pd_stage.specs.Choices.{Edits}
use Rattle.pd_stage.specs.Events.{edit_taken}
use Rattle.pd_stage.specs.Leads.{sinks, Stops}
use Rattle.pd_engine.specs.Edits.{IsEdited}
use Rattle.pd_engine.specs.Stages.{stage_at}
use Rattle.pd_engine.proofs.RewireLemmas.{ready_sure}
use Rattle.pd_engine.proofs.PuttingLemmas.{no_fault}
use Rattle.pd_engine.proofs.RetypingLemmas.{still_answered, still_torn}
use Rattle.pd_engine.proofs.engine.Engine.retype_own.Goals as goal

pub returns-in_default-clause-ok : goal.returns-in_default-clause-ok
returns-in_default-clause-ok g c =
    let e = c.args.self.now in
    subst
    (λ (x : Edit). IfOk c.tell.result (λ o. (samples : Option (List ℕ)) → IsEdited c.args.path.now x o [] (stage_at c.args.self.now) (stage_at c.tell.new.self)
    (sinks (g.L.Sink.taken c.args.lines.now) samples c.args.steps.now (g.H.Shelf.holds c.args.shelf.now) (g.H.Shelf.faults c.args.shelf.now))
    (sinks (g.L.Sink.taken c.tell.new.lines) samples c.args.steps.now (g.H.Shelf.holds c.args.shelf.now) (g.H.Shelf.faults c.args.shelf.now)))) (sym c.requires.2)
    (still_answered c.args.path.now c.requires.0 c.requires.1 e.file.items e.symbols e.library e.counts e.time e.block_end e.fired e.tally e.patch e.patch (ready_sure e.patch e.puts e.meet)
    c.tell.result (g.L.Sink.taken c.args.lines.now) (g.L.Sink.taken c.tell.new.lines) c.args.steps.now c.args.steps.now (g.H.Shelf.holds c.args.shelf.now) (g.H.Shelf.holds c.args.shelf.now)
    (g.H.Shelf.faults c.args.shelf.now) (g.H.Shelf.faults c.args.shelf.now) refl (omega arith) (stage_at c.tell.new.self) refl NoMemory (λ is. absurd (no_fault is)) (inl (refl, inl refl))
    e.symbols e.library refl refl c.tell.ensures.stage c.tell.ensures.ok c.tell.ensures.answer)

pub returns-in_default-clause-err : goal.returns-in_default-clause-err
returns-in_default-clause-err g c =
    let e = c.args.self.now in
    subst
    (λ (x : Edit). OnErr c.tell.result ((samples : Option (List ℕ)) → Stops (edit_taken (Edits None c.args.path.now x)) (stage_at c.args.self.now)
    (sinks (g.L.Sink.taken c.args.lines.now) samples c.args.steps.now (g.H.Shelf.holds c.args.shelf.now) (g.H.Shelf.faults c.args.shelf.now))
    (sinks (g.L.Sink.taken c.tell.new.lines) samples c.args.steps.now (g.H.Shelf.holds c.args.shelf.now) (g.H.Shelf.faults c.args.shelf.now)))) (sym c.requires.2)
    (still_torn c.args.path.now c.requires.0 c.requires.1 e.file.items e.symbols e.library e.counts e.time e.block_end e.fired e.tally e.patch e.patch (ready_sure e.patch e.puts e.meet)
    c.tell.result (g.L.Sink.taken c.args.lines.now) (g.L.Sink.taken c.tell.new.lines) c.args.steps.now c.args.steps.now (g.H.Shelf.holds c.args.shelf.now) (g.H.Shelf.holds c.args.shelf.now)
    (g.H.Shelf.faults c.args.shelf.now) (g.H.Shelf.faults c.args.shelf.now) refl (omega arith) (stage_at c.tell.new.self) refl NoMemory (λ is. absurd (no_fault is)) (inl (refl, inl refl)) c.tell.ensures.err)
