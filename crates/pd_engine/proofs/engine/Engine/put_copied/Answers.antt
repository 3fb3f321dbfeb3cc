use Rattle.std.proofs.Common.{sym, ap, ◌∙◌, ◌≤◌, subst, List, ℕ, Err}
use Rattle.pd_gather.specs.Gather.{known}
use Rattle.pd_wiring.specs.declared.refusals.EditRefusal.{EditRefusal}
use Rattle.pd_stage.specs.PassedOn.{AddsBoxBy, IsNotAddedBy}
use Rattle.pd_engine.specs.Stages.{stage_at}
use Rattle.pd_engine.proofs.RewireLemmas.{puts_sure, meet_sure, ready_sure, within_sure}
use Rattle.pd_engine.proofs.ProperLemmas.{found_sure}
use Rattle.pd_engine.proofs.PuttingLemmas.{put_answered, put_torn, unput_answered, unput_torn}
use Rattle.pd_engine.proofs.engine.Engine.put_copied.Goals as goal

pub add_box-done-requires-clause-can : goal.add_box-done-requires-clause-can
add_box-done-requires-clause-can g c = puts_sure c.args.self.now.patch c.args.self.now.puts

pub add_box-done-requires-clause-meet : goal.add_box-done-requires-clause-meet
add_box-done-requires-clause-meet g c = meet_sure c.args.self.now.patch.web c.args.self.now.meet

pub add_box-done-requires-clause-within : goal.add_box-done-requires-clause-within
add_box-done-requires-clause-within g c = within_sure c.args.self.now.counts c.args.self.now.within

pub add_box-done-requires-clause-found : goal.add_box-done-requires-clause-found
add_box-done-requires-clause-found g c = found_sure c.args.self.now.symbols c.args.self.now.library c.args.self.now.found

pub invariant_of-self : goal.invariant_of-self
invariant_of-self g c = record {
  puts = ∣ c.add_box-done.ensures.goes_on ∣₁;
  meet = ∣ c.add_box-done.ensures.meet ∣₁;
  counted = c.in-Ok.ensures.counted;
  within = ∣ c.in-Ok.ensures.within ∣₁;
  zero = subst (λ (n : ℕ). n ≤ 1000000000) (sym c.add_box-done.ensures.zero) c.args.self.now.zero;
  found = ∣ c.add_box-done.ensures.found ∣₁;
}

pub invariant_of-self-in-Err-1 : goal.invariant_of-self-in-Err-1
invariant_of-self-in-Err-1 g c = record {
  puts = ∣ c.add_box-done.ensures.goes_on ∣₁;
  meet = ∣ c.add_box-done.ensures.meet ∣₁;
  counted = c.args.self.now.counted ∙ sym c.in-Err.ensures.as_many;
  within = c.args.self.now.within;
  zero = subst (λ (n : ℕ). n ≤ 1000000000) (sym c.add_box-done.ensures.zero) c.args.self.now.zero;
  found = ∣ c.add_box-done.ensures.found ∣₁;
}

pub returns-in-Ok-clause-ok : goal.returns-in-Ok-clause-ok
returns-in-Ok-clause-ok g c =
    let e = c.args.self.now in
    let adds : AddsBoxBy (g.H.Shelf.holds c.args.shelf.now) e.patch c.add_box-done.new.patch e.counts e.file.items c.args.path.now e.time c.args.edit.now (known e.library e.symbols) (known c.add_box-done.new.library c.add_box-done.new.symbols) c.in-Ok.added =
    subst (λ (n : List ℕ). AddsBoxBy (g.H.Shelf.holds c.args.shelf.now) e.patch c.add_box-done.new.patch e.counts n c.args.path.now e.time c.args.edit.now (known e.library e.symbols) (known c.add_box-done.new.library c.add_box-done.new.symbols) c.in-Ok.added)
    c.as_slice.ensures.value c.in-Ok.ensures.added in
    put_answered c.tell_put.result c.args.path.now c.args.edit.now c.requires.puts e.file.items e.symbols e.library e.counts e.time e.block_end e.fired e.tally e.patch c.add_box-done.new.patch (ready_sure e.patch e.puts e.meet)
    (g.L.Sink.taken c.args.lines.now) (g.L.Sink.taken c.tell_put.new.lines) c.args.steps.now c.add_box-done.new.steps (g.H.Shelf.holds c.args.shelf.now) (g.H.Shelf.holds c.add_box-done.new.shelf)
    (g.H.Shelf.faults c.args.shelf.now) (g.H.Shelf.faults c.add_box-done.new.shelf) c.add_box-done.ensures.kept c.add_box-done.ensures.shelf_counted (stage_at c.tell_put.new.self)
    c.tell_put.new.self.loads.items c.add_box-done.new.symbols c.add_box-done.new.library c.in-Ok.added adds c.add_box-done.ensures.extends c.in-Ok.ensures.within c.in-Ok.ensures.looks c.tell_put.ensures.stage
    c.tell_put.ensures.loads c.tell_put.ensures.ok c.tell_put.ensures.answer

pub returns-in-Ok-clause-err : goal.returns-in-Ok-clause-err
returns-in-Ok-clause-err g c =
    let e = c.args.self.now in
    let adds : AddsBoxBy (g.H.Shelf.holds c.args.shelf.now) e.patch c.add_box-done.new.patch e.counts e.file.items c.args.path.now e.time c.args.edit.now (known e.library e.symbols) (known c.add_box-done.new.library c.add_box-done.new.symbols) c.in-Ok.added =
    subst (λ (n : List ℕ). AddsBoxBy (g.H.Shelf.holds c.args.shelf.now) e.patch c.add_box-done.new.patch e.counts n c.args.path.now e.time c.args.edit.now (known e.library e.symbols) (known c.add_box-done.new.library c.add_box-done.new.symbols) c.in-Ok.added)
    c.as_slice.ensures.value c.in-Ok.ensures.added in
    put_torn c.tell_put.result c.args.path.now c.args.edit.now c.requires.puts e.file.items e.symbols e.library e.counts e.time e.block_end e.fired e.tally e.patch c.add_box-done.new.patch (ready_sure e.patch e.puts e.meet)
    (g.L.Sink.taken c.args.lines.now) (g.L.Sink.taken c.tell_put.new.lines) c.args.steps.now c.add_box-done.new.steps (g.H.Shelf.holds c.args.shelf.now) (g.H.Shelf.holds c.add_box-done.new.shelf)
    (g.H.Shelf.faults c.args.shelf.now) (g.H.Shelf.faults c.add_box-done.new.shelf) c.add_box-done.ensures.kept c.add_box-done.ensures.shelf_counted (stage_at c.tell_put.new.self)
    c.tell_put.new.self.loads.items c.add_box-done.new.symbols c.add_box-done.new.library c.in-Ok.added adds c.add_box-done.ensures.extends c.in-Ok.ensures.within c.in-Ok.ensures.looks c.tell_put.ensures.err

pub returns-in-Err-clause-ok : goal.returns-in-Err-clause-ok
returns-in-Err-clause-ok g c =
    let e = c.args.self.now in
    let refused : IsNotAddedBy (g.H.Shelf.holds c.args.shelf.now) e.patch c.add_box-done.new.patch e.counts e.file.items c.args.path.now c.args.edit.now (known e.library e.symbols) c.in-Err.why =
    subst (λ (n : List ℕ). IsNotAddedBy (g.H.Shelf.holds c.args.shelf.now) e.patch c.add_box-done.new.patch e.counts n c.args.path.now c.args.edit.now (known e.library e.symbols) c.in-Err.why) c.as_slice.ensures.value c.in-Err.ensures.refused in
    unput_answered c.tell.result c.args.path.now c.args.edit.now c.requires.puts e.file.items e.symbols e.library e.counts e.time e.block_end e.fired e.tally e.patch c.add_box-done.new.patch (ready_sure e.patch e.puts e.meet)
    (g.L.Sink.taken c.args.lines.now) (g.L.Sink.taken c.tell.new.lines) c.args.steps.now c.add_box-done.new.steps (g.H.Shelf.holds c.args.shelf.now) (g.H.Shelf.holds c.add_box-done.new.shelf)
    (g.H.Shelf.faults c.args.shelf.now) (g.H.Shelf.faults c.add_box-done.new.shelf) c.add_box-done.ensures.kept c.add_box-done.ensures.shelf_counted (stage_at c.tell.new.self)
    c.tell.new.self.loads.items c.in-Err.why (λ is. c.in-Err.ensures.cause (ap (λ (x : EditRefusal). Err x) is)) c.in-Err.ensures.no_looks refused c.add_box-done.new.symbols c.add_box-done.new.library c.in-Err.ensures.names c.in-Err.ensures.library
    c.tell.ensures.stage (ap (λ v. v.items) c.tell.ensures.loads ∙ c.requires.empty) c.tell.ensures.ok c.tell.ensures.answer

pub returns-in-Err-clause-err : goal.returns-in-Err-clause-err
returns-in-Err-clause-err g c =
    let e = c.args.self.now in
    let refused : IsNotAddedBy (g.H.Shelf.holds c.args.shelf.now) e.patch c.add_box-done.new.patch e.counts e.file.items c.args.path.now c.args.edit.now (known e.library e.symbols) c.in-Err.why =
    subst (λ (n : List ℕ). IsNotAddedBy (g.H.Shelf.holds c.args.shelf.now) e.patch c.add_box-done.new.patch e.counts n c.args.path.now c.args.edit.now (known e.library e.symbols) c.in-Err.why) c.as_slice.ensures.value c.in-Err.ensures.refused in
    unput_torn c.tell.result c.args.path.now c.args.edit.now c.requires.puts e.file.items e.symbols e.library e.counts e.time e.block_end e.fired e.tally e.patch c.add_box-done.new.patch (ready_sure e.patch e.puts e.meet)
    (g.L.Sink.taken c.args.lines.now) (g.L.Sink.taken c.tell.new.lines) c.args.steps.now c.add_box-done.new.steps (g.H.Shelf.holds c.args.shelf.now) (g.H.Shelf.holds c.add_box-done.new.shelf)
    (g.H.Shelf.faults c.args.shelf.now) (g.H.Shelf.faults c.add_box-done.new.shelf) c.add_box-done.ensures.kept c.add_box-done.ensures.shelf_counted (stage_at c.tell.new.self)
    c.tell.new.self.loads.items c.in-Err.why (λ is. c.in-Err.ensures.cause (ap (λ (x : EditRefusal). Err x) is)) c.in-Err.ensures.no_looks refused c.tell.ensures.err
