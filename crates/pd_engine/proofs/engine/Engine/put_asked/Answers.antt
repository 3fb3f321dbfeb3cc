use Rattle.std.proofs.Common.{◌≡◌, arith, refl, ap, ◌∙◌, subst, inl, true, List, ℕ, Result, IfOk}
use Rattle.std.specs.declared.alloc.AllocError.{AllocError}
use Rattle.pd_canvas.specs.declared.edits.Edit.{Edit}
use Rattle.pd_canvas.specs.declared.edits.Place.{Place}
use Rattle.pd_script.specs.Edits.{puts_box}
use Rattle.pd_wiring.specs.declared.refusals.EditRefusal.TheVariants.{NoMemory}
use Rattle.pd_stage.specs.Leads.{sinks}
use Rattle.pd_engine.specs.Stages.{stage_at}
use Rattle.pd_engine.proofs.RewireLemmas.{ready_sure}
use Rattle.pd_engine.proofs.PuttingLemmas.{no_fault, unput_answered, unput_torn, asked_so, asked_torn, any_asked_so, any_asked_torn}
use Rattle.pd_engine.proofs.engine.Engine.put_asked.Goals as goal

-- the copy is of this edit
abbrev IsCopy : Result (Place × Edit) AllocError → List ℕ → Edit → Type 0
IsCopy copied path e = IfOk copied (λ c. (c.0.path ≡ path) × (c.1 ≡ e))

pub put_copied-requires-clause-puts : goal.put_copied-requires-clause-puts
put_copied-requires-clause-puts g c = subst (λ (r : Result (Place × Edit) AllocError). IfOk r (λ k. puts_box k.1 ≡ true)) c.in-Ok.is c.requires.puts

pub returns-in-Ok-clause-ok : goal.returns-in-Ok-clause-ok
returns-in-Ok-clause-ok g c =
    asked_so c.put_copied.result c.put_copied.new.self.loads.items (stage_at c.args.self.now) (stage_at c.put_copied.new.self)
    (λ samples. sinks (g.L.Sink.taken c.args.lines.now) samples c.args.steps.now (g.H.Shelf.holds c.args.shelf.now) (g.H.Shelf.faults c.args.shelf.now))
    (λ samples. sinks (g.L.Sink.taken c.put_copied.new.lines) samples c.put_copied.new.steps (g.H.Shelf.holds c.put_copied.new.shelf) (g.H.Shelf.faults c.put_copied.new.shelf))
    c.as_slice.result.now c.in-Ok.edit (IsCopy c.args.copied)
    (λ path e h. let k = subst (λ (r : Result (Place × Edit) AllocError). IsCopy r path e) c.in-Ok.is h in (c.as_slice.ensures ∙ k.0, k.1)) c.put_copied.ensures.ok

pub returns-in-Ok-clause-err : goal.returns-in-Ok-clause-err
returns-in-Ok-clause-err g c =
    asked_torn c.put_copied.result (stage_at c.args.self.now)
    (λ samples. sinks (g.L.Sink.taken c.args.lines.now) samples c.args.steps.now (g.H.Shelf.holds c.args.shelf.now) (g.H.Shelf.faults c.args.shelf.now))
    (λ samples. sinks (g.L.Sink.taken c.put_copied.new.lines) samples c.put_copied.new.steps (g.H.Shelf.holds c.put_copied.new.shelf) (g.H.Shelf.faults c.put_copied.new.shelf))
    c.as_slice.result.now c.in-Ok.edit (IsCopy c.args.copied)
    (λ path e h. let k = subst (λ (r : Result (Place × Edit) AllocError). IsCopy r path e) c.in-Ok.is h in (c.as_slice.ensures ∙ k.0, k.1)) c.put_copied.ensures.err

pub returns-in-Err-clause-ok : goal.returns-in-Err-clause-ok
returns-in-Err-clause-ok g c =
    let e = c.args.self.now in
    any_asked_so c.tell.result c.tell.new.self.loads.items (stage_at c.args.self.now) (stage_at c.tell.new.self)
    (λ samples. sinks (g.L.Sink.taken c.args.lines.now) samples c.args.steps.now (g.H.Shelf.holds c.args.shelf.now) (g.H.Shelf.faults c.args.shelf.now))
    (λ samples. sinks (g.L.Sink.taken c.tell.new.lines) samples c.args.steps.now (g.H.Shelf.holds c.args.shelf.now) (g.H.Shelf.faults c.args.shelf.now))
    (IsCopy c.args.copied)
    (λ path edit one. unput_answered c.tell.result path edit one e.file.items e.symbols e.library e.counts e.time e.block_end e.fired e.tally e.patch e.patch (ready_sure e.patch e.puts e.meet)
    (g.L.Sink.taken c.args.lines.now) (g.L.Sink.taken c.tell.new.lines) c.args.steps.now c.args.steps.now (g.H.Shelf.holds c.args.shelf.now) (g.H.Shelf.holds c.args.shelf.now)
    (g.H.Shelf.faults c.args.shelf.now) (g.H.Shelf.faults c.args.shelf.now) refl (omega arith) (stage_at c.tell.new.self) c.tell.new.self.loads.items NoMemory (λ is. absurd (no_fault is)) refl (inl (refl, inl refl))
    e.symbols e.library refl refl c.tell.ensures.stage (ap (λ v. v.items) c.tell.ensures.loads ∙ c.requires.empty) c.tell.ensures.ok c.tell.ensures.answer)

pub returns-in-Err-clause-err : goal.returns-in-Err-clause-err
returns-in-Err-clause-err g c =
    let e = c.args.self.now in
    any_asked_torn c.tell.result (stage_at c.args.self.now)
    (λ samples. sinks (g.L.Sink.taken c.args.lines.now) samples c.args.steps.now (g.H.Shelf.holds c.args.shelf.now) (g.H.Shelf.faults c.args.shelf.now))
    (λ samples. sinks (g.L.Sink.taken c.tell.new.lines) samples c.args.steps.now (g.H.Shelf.holds c.args.shelf.now) (g.H.Shelf.faults c.args.shelf.now))
    (IsCopy c.args.copied)
    (λ path edit one. unput_torn c.tell.result path edit one e.file.items e.symbols e.library e.counts e.time e.block_end e.fired e.tally e.patch e.patch (ready_sure e.patch e.puts e.meet)
    (g.L.Sink.taken c.args.lines.now) (g.L.Sink.taken c.tell.new.lines) c.args.steps.now c.args.steps.now (g.H.Shelf.holds c.args.shelf.now) (g.H.Shelf.holds c.args.shelf.now)
    (g.H.Shelf.faults c.args.shelf.now) (g.H.Shelf.faults c.args.shelf.now) refl (omega arith) (stage_at c.tell.new.self) c.tell.new.self.loads.items NoMemory (λ is. absurd (no_fault is)) refl (inl (refl, inl refl)) c.tell.ensures.err)
