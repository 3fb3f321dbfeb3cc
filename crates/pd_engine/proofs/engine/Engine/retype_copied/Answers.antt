use Rattle.std.proofs.Common.{sym, ap, ◌∙◌, ◌≤◌, subst, List, ℕ, Err}
use Rattle.pd_gather.specs.Gather.{known}
use Rattle.pd_wiring.specs.declared.refusals.EditRefusal.{EditRefusal}
use Rattle.pd_stage.specs.PassedOn.{RetypesBoxBy, IsNotRetypedBy}
use Rattle.pd_engine.specs.Stages.{stage_at}
use Rattle.pd_engine.proofs.RewireLemmas.{puts_sure, meet_sure, ready_sure, within_sure}
use Rattle.pd_engine.proofs.ProperLemmas.{found_sure}
use Rattle.pd_engine.proofs.RetypingLemmas.{retyped_answered, retyped_torn, still_answered, still_torn}
use Rattle.pd_engine.proofs.engine.Engine.retype_copied.Goals as goal

pub retype_box-done-requires-clause-can : goal.retype_box-done-requires-clause-can
retype_box-done-requires-clause-can g c = puts_sure c.args.self.now.patch c.args.self.now.puts

pub retype_box-done-requires-clause-meet : goal.retype_box-done-requires-clause-meet
retype_box-done-requires-clause-meet g c = meet_sure c.args.self.now.patch.web c.args.self.now.meet

pub retype_box-done-requires-clause-within : goal.retype_box-done-requires-clause-within
retype_box-done-requires-clause-within g c = within_sure c.args.self.now.counts c.args.self.now.within

pub retype_box-done-requires-clause-found : goal.retype_box-done-requires-clause-found
retype_box-done-requires-clause-found g c = found_sure c.args.self.now.symbols c.args.self.now.library c.args.self.now.found

pub invariant_of-self : goal.invariant_of-self
invariant_of-self g c = record {
  puts = ∣ c.retype_box-done.ensures.goes_on ∣₁;
  meet = ∣ c.retype_box-done.ensures.meet ∣₁;
  counted = c.in-Ok.ensures.counted;
  within = ∣ c.in-Ok.ensures.within ∣₁;
  zero = subst (λ (n : ℕ). n ≤ 1000000000) (sym c.retype_box-done.ensures.zero) c.args.self.now.zero;
  found = ∣ c.retype_box-done.ensures.found ∣₁;
}

pub invariant_of-self-in-Err-1 : goal.invariant_of-self-in-Err-1
invariant_of-self-in-Err-1 g c = record {
  puts = ∣ c.retype_box-done.ensures.goes_on ∣₁;
  meet = ∣ c.retype_box-done.ensures.meet ∣₁;
  counted = c.args.self.now.counted ∙ sym c.in-Err.ensures.as_many;
  within = c.args.self.now.within;
  zero = subst (λ (n : ℕ). n ≤ 1000000000) (sym c.retype_box-done.ensures.zero) c.args.self.now.zero;
  found = ∣ c.retype_box-done.ensures.found ∣₁;
}

pub returns-in-Ok-clause-ok : goal.returns-in-Ok-clause-ok
returns-in-Ok-clause-ok g c =
    let e = c.args.self.now in
    let d : RetypesBoxBy (g.H.Shelf.holds c.args.shelf.now) e.patch c.retype_box-done.new.patch e.counts e.file.items c.args.path.now c.args.number c.args.text.now e.time (known e.library e.symbols)
    (known c.retype_box-done.new.library c.retype_box-done.new.symbols) c.args.steps.now c.retype_box-done.new.steps c.in-Ok.retyped =
    subst (λ (n : List ℕ). RetypesBoxBy (g.H.Shelf.holds c.args.shelf.now) e.patch c.retype_box-done.new.patch e.counts n c.args.path.now c.args.number c.args.text.now e.time (known e.library e.symbols)
    (known c.retype_box-done.new.library c.retype_box-done.new.symbols) c.args.steps.now c.retype_box-done.new.steps c.in-Ok.retyped) c.as_slice.ensures.value c.in-Ok.ensures.retyped in
    retyped_answered c.args.path.now c.args.number c.args.text.now e.file.items e.symbols e.library e.counts e.time e.block_end e.fired e.tally e.patch c.retype_box-done.new.patch (ready_sure e.patch e.puts e.meet)
    c.tell_retyped.result (g.L.Sink.taken c.args.lines.now) (g.L.Sink.taken c.tell_retyped.new.lines) c.args.steps.now c.retype_box-done.new.steps (g.H.Shelf.holds c.args.shelf.now) (g.H.Shelf.holds c.retype_box-done.new.shelf)
    (g.H.Shelf.faults c.args.shelf.now) (g.H.Shelf.faults c.retype_box-done.new.shelf) c.retype_box-done.ensures.kept c.retype_box-done.ensures.shelf_counted (stage_at c.tell_retyped.new.self)
    c.retype_box-done.new.symbols c.retype_box-done.new.library c.in-Ok.retyped d c.retype_box-done.ensures.extends c.in-Ok.ensures.within c.tell_retyped.ensures.stage c.tell_retyped.ensures.ok c.tell_retyped.ensures.answer

pub returns-in-Ok-clause-err : goal.returns-in-Ok-clause-err
returns-in-Ok-clause-err g c =
    let e = c.args.self.now in
    let d : RetypesBoxBy (g.H.Shelf.holds c.args.shelf.now) e.patch c.retype_box-done.new.patch e.counts e.file.items c.args.path.now c.args.number c.args.text.now e.time (known e.library e.symbols)
    (known c.retype_box-done.new.library c.retype_box-done.new.symbols) c.args.steps.now c.retype_box-done.new.steps c.in-Ok.retyped =
    subst (λ (n : List ℕ). RetypesBoxBy (g.H.Shelf.holds c.args.shelf.now) e.patch c.retype_box-done.new.patch e.counts n c.args.path.now c.args.number c.args.text.now e.time (known e.library e.symbols)
    (known c.retype_box-done.new.library c.retype_box-done.new.symbols) c.args.steps.now c.retype_box-done.new.steps c.in-Ok.retyped) c.as_slice.ensures.value c.in-Ok.ensures.retyped in
    retyped_torn c.args.path.now c.args.number c.args.text.now e.file.items e.symbols e.library e.counts e.time e.block_end e.fired e.tally e.patch c.retype_box-done.new.patch (ready_sure e.patch e.puts e.meet)
    c.tell_retyped.result (g.L.Sink.taken c.args.lines.now) (g.L.Sink.taken c.tell_retyped.new.lines) c.args.steps.now c.retype_box-done.new.steps (g.H.Shelf.holds c.args.shelf.now) (g.H.Shelf.holds c.retype_box-done.new.shelf)
    (g.H.Shelf.faults c.args.shelf.now) (g.H.Shelf.faults c.retype_box-done.new.shelf) c.retype_box-done.ensures.kept c.retype_box-done.ensures.shelf_counted (stage_at c.tell_retyped.new.self)
    c.retype_box-done.new.symbols c.retype_box-done.new.library c.in-Ok.retyped d c.retype_box-done.ensures.extends c.in-Ok.ensures.within c.tell_retyped.ensures.err

pub returns-in-Err-clause-ok : goal.returns-in-Err-clause-ok
returns-in-Err-clause-ok g c =
    let e = c.args.self.now in
    let d : IsNotRetypedBy (g.H.Shelf.holds c.args.shelf.now) e.patch c.retype_box-done.new.patch e.counts e.file.items c.args.path.now c.args.number c.args.text.now (known e.library e.symbols) c.in-Err.why =
    subst (λ (n : List ℕ). IsNotRetypedBy (g.H.Shelf.holds c.args.shelf.now) e.patch c.retype_box-done.new.patch e.counts n c.args.path.now c.args.number c.args.text.now (known e.library e.symbols) c.in-Err.why)
    c.as_slice.ensures.value c.in-Err.ensures.refused in
    still_answered c.args.path.now c.args.number c.args.text.now e.file.items e.symbols e.library e.counts e.time e.block_end e.fired e.tally e.patch c.retype_box-done.new.patch (ready_sure e.patch e.puts e.meet)
    c.tell.result (g.L.Sink.taken c.args.lines.now) (g.L.Sink.taken c.tell.new.lines) c.args.steps.now c.retype_box-done.new.steps (g.H.Shelf.holds c.args.shelf.now) (g.H.Shelf.holds c.retype_box-done.new.shelf)
    (g.H.Shelf.faults c.args.shelf.now) (g.H.Shelf.faults c.retype_box-done.new.shelf) c.retype_box-done.ensures.kept c.retype_box-done.ensures.shelf_counted (stage_at c.tell.new.self)
    c.in-Err.ensures.no_looks c.in-Err.why (λ is. c.retype_box-done.ensures.cause (c.in-Err.is ∙ ap (λ (x : EditRefusal). Err x) is)) d c.retype_box-done.new.symbols c.retype_box-done.new.library c.in-Err.ensures.names c.in-Err.ensures.library
    c.tell.ensures.stage c.tell.ensures.ok c.tell.ensures.answer

pub returns-in-Err-clause-err : goal.returns-in-Err-clause-err
returns-in-Err-clause-err g c =
    let e = c.args.self.now in
    let d : IsNotRetypedBy (g.H.Shelf.holds c.args.shelf.now) e.patch c.retype_box-done.new.patch e.counts e.file.items c.args.path.now c.args.number c.args.text.now (known e.library e.symbols) c.in-Err.why =
    subst (λ (n : List ℕ). IsNotRetypedBy (g.H.Shelf.holds c.args.shelf.now) e.patch c.retype_box-done.new.patch e.counts n c.args.path.now c.args.number c.args.text.now (known e.library e.symbols) c.in-Err.why)
    c.as_slice.ensures.value c.in-Err.ensures.refused in
    still_torn c.args.path.now c.args.number c.args.text.now e.file.items e.symbols e.library e.counts e.time e.block_end e.fired e.tally e.patch c.retype_box-done.new.patch (ready_sure e.patch e.puts e.meet)
    c.tell.result (g.L.Sink.taken c.args.lines.now) (g.L.Sink.taken c.tell.new.lines) c.args.steps.now c.retype_box-done.new.steps (g.H.Shelf.holds c.args.shelf.now) (g.H.Shelf.holds c.retype_box-done.new.shelf)
    (g.H.Shelf.faults c.args.shelf.now) (g.H.Shelf.faults c.retype_box-done.new.shelf) c.retype_box-done.ensures.kept c.retype_box-done.ensures.shelf_counted (stage_at c.tell.new.self)
    c.in-Err.ensures.no_looks c.in-Err.why (λ is. c.retype_box-done.ensures.cause (c.in-Err.is ∙ ap (λ (x : EditRefusal). Err x) is)) d c.tell.ensures.err
