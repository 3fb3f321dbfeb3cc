use Rattle.pd_stage.specs.Choices.{base_of}
use Rattle.std.proofs.Common.{◌≡◌, true, refl, sym, subst, ap, ◌∙◌, inr, List, [], ℕ, Some, None, slice_get}
use Rattle.std.proofs.lemmas.Result.{err_from_is_err_and, on_ok_weaker, on_err_weaker}
use Rattle.pd_canvas.specs.declared.edits.Edit.{Edit}
use Rattle.pd_queue.specs.Entries.{wire_edit}
use Rattle.pd_queue.specs.Queue.{Waiting}
use Rattle.pd_script.specs.Edits.{puts_box}
use Rattle.pd_stage.specs.Choices.{Asks}
use Rattle.pd_stage.specs.Events.{Left, edit_taken}
use Rattle.pd_stage.specs.Leads.{Sinks, sinks, Stops}
use Rattle.pd_engine.specs.Edits.{AreAskedFor, left_of, IsTakenSo, IsLoadedSo, IsLoadedPart, IsAskedSo}
use Rattle.pd_engine.specs.Stages.{stage_at}
use Rattle.pd_engine.proofs.AskedLemmas.{asked_at}
use Rattle.pd_engine.proofs.CommandLemmas.{if_ok_weaker, if_ok_both}
use Rattle.pd_engine.proofs.FollowLemmas.{asked_broke_first, asked_loaded, asked_broke, asked_alone}
use Rattle.pd_engine.proofs.RewireLemmas.{IsKept, puts_sure, ready_sure}
use Rattle.pd_engine.proofs.MakingLemmas.{own_wire, edit_so, part_edit, edits_kept, edits_within}
use Rattle.pd_engine.proofs.engine.Engine.take_asked.Goals as goal

pub make-done-requires-clause-rewires : goal.make-done-requires-clause-rewires
make-done-requires-clause-rewires g c = (puts_sure c.args.self.now.patch c.args.self.now.puts).runs

pub invariant_of-self-2 : goal.invariant_of-self-2
invariant_of-self-2 g c =
    let e = c.args.self.now in
    let d = c.make-done.ensures.edits c.in-Some.asked.now.1 (sym c.wire_edit.ensures ∙ c.in-Some-wire_edit.is) in
    let k : IsKept c.make-done.new.patch (record e.counts { wires = c.make-done.new.wires }) =
    edits_kept e.patch c.make-done.new.patch e.counts c.make-done.new.wires c.path.result.now c.in-Some.asked.now.1 c.make-done.result c.args.steps.now c.make-done.new.steps d c.make-done.ensures.rewires
    c.make-done.ensures.counted (record { puts = e.puts; meet = e.meet; counted = e.counted; zero = e.zero }) in
    record {
      puts = k.puts;
      meet = k.meet;
      counted = k.counted;
      within = edits_within e.patch c.make-done.new.patch e.counts c.make-done.new.wires c.path.result.now c.in-Some.asked.now.1 c.make-done.result c.args.steps.now c.make-done.new.steps d e.counted
          c.make-done.ensures.counted e.within;
      zero = k.zero;
      found = e.found;
    }

pub put_asked-requires-clause-puts : goal.put_asked-requires-clause-puts
put_asked-requires-clause-puts g c =
    let e = c.args.self.now in
    let asked : List ℕ × Edit = c.in-Some.asked.now in
    let is : slice_get e.queue c.args.i ≡ Some asked = sym c.in-Some.ensures in
    let none : wire_edit asked.1 ≡ None = sym c.wire_edit.ensures ∙ c.in_default-wire_edit.is in
    let one : puts_box asked.1 ≡ true = asked_at e.queue c.args.i asked is c.requires.asked none in
    if_ok_weaker c.copy-copied.result (λ k same. ap puts_box same ∙ one) c.copy-copied.ensures.edit

pub load_made-requires : goal.load_made-requires
load_made-requires g c = subst (λ (q : Waiting). AreAskedFor q) (sym c.put_asked.ensures.queue) c.requires.asked

pub returns-in_err-put_asked-clause-err : goal.returns-in_err-put_asked-clause-err
returns-in_err-put_asked-clause-err g c =
    let p = err_from_is_err_and c.from_residual.result c.from_residual.ensures.1 in
    let e = c.args.self.now in
    let asked : List ℕ × Edit = c.in-Some.asked.now in
    let is : slice_get e.queue c.args.i ≡ Some asked = sym c.in-Some.ensures in
    let none : wire_edit asked.1 ≡ None = sym c.wire_edit.ensures ∙ c.in_default-wire_edit.is in
    let one : puts_box asked.1 ≡ true = asked_at e.queue c.args.i asked is c.requires.asked none in
    let l : Left = left_of c.args.budget.now e.queue in
    rw p.1
    (λ samples.
    let x : Sinks = sinks (g.L.Sink.taken c.args.lines.now) samples c.args.steps.now (g.H.Shelf.holds c.args.shelf.now) (g.H.Shelf.faults c.args.shelf.now) in
    let y : Sinks = sinks (g.L.Sink.taken c.put_asked.new.lines) samples c.put_asked.new.steps (g.H.Shelf.holds c.put_asked.new.shelf) (g.H.Shelf.faults c.put_asked.new.shelf) in
    asked_broke_first c.args.i l asked is (stage_at e) x y y
    (c.in_err-put_asked.ensures.err asked.0 asked.1 one (if_ok_both _ _ c.copy-copied.result c.copy-copied.ensures.path c.copy-copied.ensures.edit) samples))

pub returns-in_default-wire_edit-clause-ok : goal.returns-in_default-wire_edit-clause-ok
returns-in_default-wire_edit-clause-ok g c =
    let e = c.args.self.now in
    let asked : List ℕ × Edit = c.in-Some.asked.now in
    let is : slice_get e.queue c.args.i ≡ Some asked = sym c.in-Some.ensures in
    let none : wire_edit asked.1 ≡ None = sym c.wire_edit.ensures ∙ c.in_default-wire_edit.is in
    let one : puts_box asked.1 ≡ true = asked_at e.queue c.args.i asked is c.requires.asked none in
    let l : Left = left_of c.args.budget.now e.queue in
    let l' : Left = left_of c.load_made.new.budget c.load_made.new.self.queue in
    let loads : List ℕ = c.put_asked.new.self.loads.items in
    on_ok_weaker c.load_made.result
    (λ h samples.
    let x : Sinks = sinks (g.L.Sink.taken c.args.lines.now) samples c.args.steps.now (g.H.Shelf.holds c.args.shelf.now) (g.H.Shelf.faults c.args.shelf.now) in
    let y : Sinks = sinks (g.L.Sink.taken c.put_asked.new.lines) samples c.put_asked.new.steps (g.H.Shelf.holds c.put_asked.new.shelf) (g.H.Shelf.faults c.put_asked.new.shelf) in
    let z : Sinks = sinks (g.L.Sink.taken c.load_made.new.lines) samples c.put_asked.new.steps (g.H.Shelf.holds c.put_asked.new.shelf) (g.H.Shelf.faults c.put_asked.new.shelf) in
    asked_loaded c.args.i l asked is (stage_at e) x y z c.in_ok-put_asked.field-0 loads (stage_at c.put_asked.new.self)
    (c.in_ok-put_asked.ensures.ok asked.0 asked.1 one (if_ok_both _ _ c.copy-copied.result c.copy-copied.ensures.path c.copy-copied.ensures.edit) samples) l' (stage_at c.load_made.new.self)
    (subst (λ (q : Waiting). IsLoadedSo loads (left_of c.args.budget.now q) l' (stage_at c.put_asked.new.self) (stage_at c.load_made.new.self) y z) c.put_asked.ensures.queue
    (h samples c.put_asked.new.steps (g.H.Shelf.holds c.put_asked.new.shelf) (g.H.Shelf.faults c.put_asked.new.shelf))))
    c.load_made.ensures.ok

pub returns-in_default-wire_edit-clause-err : goal.returns-in_default-wire_edit-clause-err
returns-in_default-wire_edit-clause-err g c =
    let e = c.args.self.now in
    let asked : List ℕ × Edit = c.in-Some.asked.now in
    let is : slice_get e.queue c.args.i ≡ Some asked = sym c.in-Some.ensures in
    let none : wire_edit asked.1 ≡ None = sym c.wire_edit.ensures ∙ c.in_default-wire_edit.is in
    let one : puts_box asked.1 ≡ true = asked_at e.queue c.args.i asked is c.requires.asked none in
    let l : Left = left_of c.args.budget.now e.queue in
    let loads : List ℕ = c.put_asked.new.self.loads.items in
    on_err_weaker c.load_made.result
    (λ h samples.
    let x : Sinks = sinks (g.L.Sink.taken c.args.lines.now) samples c.args.steps.now (g.H.Shelf.holds c.args.shelf.now) (g.H.Shelf.faults c.args.shelf.now) in
    let y : Sinks = sinks (g.L.Sink.taken c.put_asked.new.lines) samples c.put_asked.new.steps (g.H.Shelf.holds c.put_asked.new.shelf) (g.H.Shelf.faults c.put_asked.new.shelf) in
    let z : Sinks = sinks (g.L.Sink.taken c.load_made.new.lines) samples c.put_asked.new.steps (g.H.Shelf.holds c.put_asked.new.shelf) (g.H.Shelf.faults c.put_asked.new.shelf) in
    asked_broke c.args.i l asked is (stage_at e) x y z c.in_ok-put_asked.field-0 loads (stage_at c.put_asked.new.self)
    (c.in_ok-put_asked.ensures.ok asked.0 asked.1 one (if_ok_both _ _ c.copy-copied.result c.copy-copied.ensures.path c.copy-copied.ensures.edit) samples)
    (subst (λ (q : Waiting). IsLoadedPart loads (left_of c.args.budget.now q) (stage_at c.put_asked.new.self) y z) c.put_asked.ensures.queue
    (h samples c.put_asked.new.steps (g.H.Shelf.holds c.put_asked.new.shelf) (g.H.Shelf.faults c.put_asked.new.shelf))))
    c.load_made.ensures.err

pub returns-in_err-tell-clause-err : goal.returns-in_err-tell-clause-err
returns-in_err-tell-clause-err g c =
    let p = err_from_is_err_and c.from_residual-in_err-tell.result c.from_residual-in_err-tell.ensures.1 in
    let e = c.args.self.now in
    let asked : List ℕ × Edit = c.in-Some.asked.now in
    let is : slice_get e.queue c.args.i ≡ Some asked = sym c.in-Some.ensures in
    let path : List ℕ = c.path.result.now in
    let some : wire_edit asked.1 ≡ Some c.in-Some-wire_edit.edit = sym c.wire_edit.ensures ∙ c.in-Some-wire_edit.is in
    let l : Left = left_of c.args.budget.now e.queue in
    rw p.1
    (λ samples.
    let x : Sinks = sinks (g.L.Sink.taken c.args.lines.now) samples c.args.steps.now (g.H.Shelf.holds c.args.shelf.now) (g.H.Shelf.faults c.args.shelf.now) in
    let y : Sinks = sinks (g.L.Sink.taken c.tell.new.lines) samples c.make-done.new.steps (g.H.Shelf.holds c.args.shelf.now) (g.H.Shelf.faults c.args.shelf.now) in
    asked_broke_first c.args.i l asked is (stage_at e) x y y
    (subst (λ (r : List ℕ). Stops (edit_taken (Asks r asked.1)) (stage_at e) x y) c.path.ensures
    (part_edit c.tell.result (Asks path asked.1) path asked.1 (own_wire (Asks path asked.1) path asked.1 c.in-Some-wire_edit.edit (inr refl) some) e.file.items e.symbols (base_of e.library e.counts) e.time e.block_end e.fired e.tally
    e.patch c.make-done.new.patch c.make-done.new.wires e.counted c.make-done.ensures.counted (stage_at c.tell.new.self)
    c.make-done.result (g.L.Sink.taken c.args.lines.now) (g.L.Sink.taken c.tell.new.lines) c.args.steps.now c.make-done.new.steps
    (ready_sure e.patch e.puts e.meet) c.make-done.ensures.rewires (c.make-done.ensures.edits asked.1 some) c.in_err-tell.ensures.stage c.in_err-tell.ensures.err
    samples (g.H.Shelf.holds c.args.shelf.now) (g.H.Shelf.faults c.args.shelf.now))))

pub returns-clause-ok : goal.returns-clause-ok
returns-clause-ok g c = λ samples.
    let e = c.args.self.now in
    let asked : List ℕ × Edit = c.in-Some.asked.now in
    let is : slice_get e.queue c.args.i ≡ Some asked = sym c.in-Some.ensures in
    let path : List ℕ = c.path.result.now in
    let some : wire_edit asked.1 ≡ Some c.in-Some-wire_edit.edit = sym c.wire_edit.ensures ∙ c.in-Some-wire_edit.is in
    let l : Left = left_of c.args.budget.now e.queue in
    let x : Sinks = sinks (g.L.Sink.taken c.args.lines.now) samples c.args.steps.now (g.H.Shelf.holds c.args.shelf.now) (g.H.Shelf.faults c.args.shelf.now) in
    let y : Sinks = sinks (g.L.Sink.taken c.tell.new.lines) samples c.make-done.new.steps (g.H.Shelf.holds c.args.shelf.now) (g.H.Shelf.faults c.args.shelf.now) in
    subst (λ (q : Waiting). IsAskedSo c.args.i l (left_of c.args.budget.now q) (stage_at e) (stage_at c.tell.new.self) x y) (sym c.tell.ensures.queue)
    (asked_alone c.args.i l asked is (stage_at e) x y y c.in_ok-tell.field-0 (stage_at c.tell.new.self)
    (subst (λ (r : List ℕ). IsTakenSo (Asks r asked.1) c.in_ok-tell.field-0 [] (stage_at e) (stage_at c.tell.new.self) x y) c.path.ensures
    (edit_so c.tell.result (Asks path asked.1) path asked.1 (own_wire (Asks path asked.1) path asked.1 c.in-Some-wire_edit.edit (inr refl) some) e.file.items e.symbols (base_of e.library e.counts) e.time e.block_end e.fired e.tally
    e.patch c.make-done.new.patch c.make-done.new.wires e.counted c.make-done.ensures.counted (stage_at c.tell.new.self)
    c.make-done.result (g.L.Sink.taken c.args.lines.now) (g.L.Sink.taken c.tell.new.lines) c.args.steps.now c.make-done.new.steps
    (ready_sure e.patch e.puts e.meet) c.make-done.ensures.rewires (c.make-done.ensures.edits asked.1 some) c.in_ok-tell.ensures.stage c.in_ok-tell.field-0 c.in_ok-tell.ensures.ok c.in_ok-tell.ensures.answer
    samples (g.H.Shelf.holds c.args.shelf.now) (g.H.Shelf.faults c.args.shelf.now))))

pub returns-clause-asked : goal.returns-clause-asked
returns-clause-asked g c = subst (λ (q : Waiting). AreAskedFor q) (sym c.tell.ensures.queue) c.requires.asked
