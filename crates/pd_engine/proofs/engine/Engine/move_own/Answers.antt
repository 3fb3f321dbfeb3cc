use Rattle.std.proofs.Common.{◌≤◌, sym, ◌∙◌, ℕ, subst, Err}
use Rattle.pd_stage.specs.Choices.{base_of}
use Rattle.pd_stage.specs.Lines.{moved_text}
use Rattle.pd_engine.specs.declared.refusals.Outcome.TheVariants.{Done}
use Rattle.pd_engine.specs.Edits.{edit_text, edit_outcome}
use Rattle.pd_engine.specs.Stages.{stage_at}
use Rattle.pd_engine.proofs.RewireLemmas.{puts_sure, meet_sure, ready_sure}
use Rattle.pd_engine.proofs.MovingLemmas.{moved_told, stays_told, moved_so, moved_part}
use Rattle.pd_engine.proofs.engine.Engine.move_own.Goals as goal

pub move_box-done-requires-clause-can : goal.move_box-done-requires-clause-can
move_box-done-requires-clause-can g c = puts_sure c.args.self.now.patch c.args.self.now.puts

pub move_box-done-requires-clause-meet : goal.move_box-done-requires-clause-meet
move_box-done-requires-clause-meet g c = meet_sure c.args.self.now.patch.web c.args.self.now.meet

pub invariant_of-self : goal.invariant_of-self
invariant_of-self g c =
    let e = c.args.self.now in
    record {
      puts = ∣ c.move_box-done.ensures.goes_on ∣₁;
      meet = ∣ c.move_box-done.ensures.meet ∣₁;
      counted = e.counted ∙ sym c.move_box-done.ensures.as_many;
      within = e.within;
      zero = subst (λ (n : ℕ). n ≤ 1000000000) (sym c.move_box-done.ensures.zero) e.zero;
      found = e.found;
    }

pub returns-in-Ok-clause-ok : goal.returns-in-Ok-clause-ok
returns-in-Ok-clause-ok g c =
    let e = c.args.self.now in
    let b = c.in-Ok.moved in
    let p = c.move_box-done.new.patch in
    let ready = ready_sure e.patch e.puts e.meet in
    moved_so c.args.path.now c.args.number c.args.x c.args.y e.file.items e.symbols (base_of e.library e.counts) e.time e.block_end e.fired e.tally e.patch p ready
    c.tell_moved.result (g.L.Sink.taken c.args.lines.now) (g.L.Sink.taken c.tell_moved.new.lines) (stage_at c.tell_moved.new.self) (moved_text p b.canvas b.around) Done
    (moved_told c.args.path.now c.args.number c.args.x c.args.y e.file.items e.symbols (base_of e.library e.counts) e.time e.block_end e.fired e.tally e.patch p ready b c.in-Ok.ensures.moved)
    c.tell_moved.ensures.stage c.tell_moved.ensures.ok c.tell_moved.ensures.answer

pub returns-in-Ok-clause-err : goal.returns-in-Ok-clause-err
returns-in-Ok-clause-err g c =
    let e = c.args.self.now in
    let b = c.in-Ok.moved in
    let p = c.move_box-done.new.patch in
    let ready = ready_sure e.patch e.puts e.meet in
    moved_part c.args.path.now c.args.number c.args.x c.args.y e.file.items e.symbols (base_of e.library e.counts) e.time e.block_end e.fired e.tally e.patch p ready
    c.tell_moved.result (g.L.Sink.taken c.args.lines.now) (g.L.Sink.taken c.tell_moved.new.lines) (stage_at c.tell_moved.new.self) (moved_text p b.canvas b.around) Done
    (moved_told c.args.path.now c.args.number c.args.x c.args.y e.file.items e.symbols (base_of e.library e.counts) e.time e.block_end e.fired e.tally e.patch p ready b c.in-Ok.ensures.moved)
    c.tell_moved.ensures.stage c.tell_moved.ensures.err

pub returns-in-Err-clause-ok : goal.returns-in-Err-clause-ok
returns-in-Err-clause-ok g c =
    let e = c.args.self.now in
    let p = c.move_box-done.new.patch in
    let ready = ready_sure e.patch e.puts e.meet in
    moved_so c.args.path.now c.args.number c.args.x c.args.y e.file.items e.symbols (base_of e.library e.counts) e.time e.block_end e.fired e.tally e.patch p ready
    c.tell.result (g.L.Sink.taken c.args.lines.now) (g.L.Sink.taken c.tell.new.lines) (stage_at c.tell.new.self) (edit_text p (Err c.in-Err.why)) (edit_outcome (Err c.in-Err.why))
    (λ looks. stays_told c.args.path.now c.args.number c.args.x c.args.y e.file.items e.symbols (base_of e.library e.counts) e.time e.block_end e.fired e.tally e.patch p ready
    c.in-Err.why looks c.in-Err.ensures.refused)
    c.tell.ensures.stage c.tell.ensures.ok c.tell.ensures.answer

pub returns-in-Err-clause-err : goal.returns-in-Err-clause-err
returns-in-Err-clause-err g c =
    let e = c.args.self.now in
    let p = c.move_box-done.new.patch in
    let ready = ready_sure e.patch e.puts e.meet in
    moved_part c.args.path.now c.args.number c.args.x c.args.y e.file.items e.symbols (base_of e.library e.counts) e.time e.block_end e.fired e.tally e.patch p ready
    c.tell.result (g.L.Sink.taken c.args.lines.now) (g.L.Sink.taken c.tell.new.lines) (stage_at c.tell.new.self) (edit_text p (Err c.in-Err.why)) (edit_outcome (Err c.in-Err.why))
    (λ looks. stays_told c.args.path.now c.args.number c.args.x c.args.y e.file.items e.symbols (base_of e.library e.counts) e.time e.block_end e.fired e.tally e.patch p ready
    c.in-Err.why looks c.in-Err.ensures.refused)
    c.tell.ensures.stage c.tell.ensures.err
