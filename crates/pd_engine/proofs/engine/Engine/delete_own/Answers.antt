use Rattle.std.proofs.Common.{◌≤◌, sym, ℕ, subst, Err}
use Rattle.pd_atom.specs.Names.{Names}
use Rattle.pd_gather.specs.Gather.{AreProper}
use Rattle.pd_engine.specs.Stages.{stage_at}
use Rattle.pd_engine.proofs.RewireLemmas.{puts_sure, meet_sure, ready_sure, within_sure}
use Rattle.pd_engine.proofs.LostLemmas.{wires_left}
use Rattle.pd_engine.proofs.DeletingLemmas.{gone_told, left_told, deleted_so, deleted_part}
use Rattle.pd_stage.specs.Lines.{deleted_text}
use Rattle.pd_engine.specs.declared.refusals.Outcome.TheVariants.{Done}
use Rattle.pd_engine.specs.Edits.{edit_text, edit_outcome}
use Rattle.pd_engine.proofs.engine.Engine.delete_own.Goals as goal

pub delete_box-done-requires-clause-can : goal.delete_box-done-requires-clause-can
delete_box-done-requires-clause-can g c = puts_sure c.args.self.now.patch c.args.self.now.puts

pub delete_box-done-requires-clause-meet : goal.delete_box-done-requires-clause-meet
delete_box-done-requires-clause-meet g c = meet_sure c.args.self.now.patch.web c.args.self.now.meet

pub invariant_of-self : goal.invariant_of-self
invariant_of-self g c = record {
  puts = ∣ c.delete_box-done.ensures.goes_on ∣₁;
  meet = ∣ c.delete_box-done.ensures.meet ∣₁;
  counted = wires_left c.args.self.now.patch c.delete_box-done.new.patch c.args.self.now.counts c.args.self.now.symbols c.args.path.now c.args.number c.args.steps.now c.delete_box-done.new.steps
      c.in-Ok.gone c.in-Ok.ensures.deleted;
  within = ∣ c.in-Ok.ensures.within (within_sure c.args.self.now.counts c.args.self.now.within) ∣₁;
  zero = subst (λ (n : ℕ). n ≤ 1000000000) (sym c.delete_box-done.ensures.zero) c.args.self.now.zero;
  found = subst (λ (n : Names). ∥ AreProper n c.args.self.now.library ∥₁) (sym c.delete_box-done.ensures.names) c.args.self.now.found;
}

pub returns-in-Ok-clause-ok : goal.returns-in-Ok-clause-ok
returns-in-Ok-clause-ok g c =
    let e = c.args.self.now in
    let ready = ready_sure e.patch e.puts e.meet in
    deleted_so c.args.path.now c.args.number e.file.items e.symbols e.library e.counts e.time e.block_end e.fired e.tally e.patch c.delete_box-done.new.patch ready
    c.tell_deleted.result (g.L.Sink.taken c.args.lines.now) (g.L.Sink.taken c.tell_deleted.new.lines) (stage_at c.tell_deleted.new.self) c.delete_box-done.new.symbols c.delete_box-done.ensures.names c.in-Ok.gone.counts
    (deleted_text c.delete_box-done.new.patch c.in-Ok.gone.canvas c.in-Ok.gone.around c.in-Ok.gone.gone.items) Done c.args.steps.now c.delete_box-done.new.steps
    (gone_told c.args.path.now c.args.number e.file.items e.symbols e.library e.counts e.time e.block_end e.fired e.tally e.patch c.delete_box-done.new.patch ready
    c.in-Ok.gone c.args.steps.now c.delete_box-done.new.steps c.in-Ok.ensures.deleted (c.in-Ok.ensures.within (within_sure e.counts e.within)))
    c.tell_deleted.ensures.stage c.tell_deleted.ensures.ok c.tell_deleted.ensures.answer

pub returns-in-Ok-clause-err : goal.returns-in-Ok-clause-err
returns-in-Ok-clause-err g c =
    let e = c.args.self.now in
    let ready = ready_sure e.patch e.puts e.meet in
    deleted_part c.args.path.now c.args.number e.file.items e.symbols e.library e.counts e.time e.block_end e.fired e.tally e.patch c.delete_box-done.new.patch ready
    c.tell_deleted.result (g.L.Sink.taken c.args.lines.now) (g.L.Sink.taken c.tell_deleted.new.lines) (stage_at c.tell_deleted.new.self) c.delete_box-done.new.symbols c.delete_box-done.ensures.names c.in-Ok.gone.counts
    (deleted_text c.delete_box-done.new.patch c.in-Ok.gone.canvas c.in-Ok.gone.around c.in-Ok.gone.gone.items) Done c.args.steps.now c.delete_box-done.new.steps
    (gone_told c.args.path.now c.args.number e.file.items e.symbols e.library e.counts e.time e.block_end e.fired e.tally e.patch c.delete_box-done.new.patch ready
    c.in-Ok.gone c.args.steps.now c.delete_box-done.new.steps c.in-Ok.ensures.deleted (c.in-Ok.ensures.within (within_sure e.counts e.within)))
    c.tell_deleted.ensures.stage c.tell_deleted.ensures.err

pub returns-in-Err-clause-ok : goal.returns-in-Err-clause-ok
returns-in-Err-clause-ok g c =
    let e = c.args.self.now in
    let ready = ready_sure e.patch e.puts e.meet in
    deleted_so c.args.path.now c.args.number e.file.items e.symbols e.library e.counts e.time e.block_end e.fired e.tally e.patch c.delete_box-done.new.patch ready
    c.tell.result (g.L.Sink.taken c.args.lines.now) (g.L.Sink.taken c.tell.new.lines) (stage_at c.tell.new.self) c.delete_box-done.new.symbols c.delete_box-done.ensures.names e.counts
    (edit_text c.delete_box-done.new.patch (Err c.in-Err.why)) (edit_outcome (Err c.in-Err.why)) c.args.steps.now c.delete_box-done.new.steps
    (left_told c.args.path.now c.args.number e.file.items e.symbols e.library e.counts e.time e.block_end e.fired e.tally e.patch c.delete_box-done.new.patch ready
    c.in-Err.why c.args.steps.now c.delete_box-done.new.steps c.in-Err.ensures.no_looks c.delete_box-done.ensures.goes_on.runs c.in-Err.ensures.refused)
    c.tell.ensures.stage c.tell.ensures.ok c.tell.ensures.answer

pub returns-in-Err-clause-err : goal.returns-in-Err-clause-err
returns-in-Err-clause-err g c =
    let e = c.args.self.now in
    let ready = ready_sure e.patch e.puts e.meet in
    deleted_part c.args.path.now c.args.number e.file.items e.symbols e.library e.counts e.time e.block_end e.fired e.tally e.patch c.delete_box-done.new.patch ready
    c.tell.result (g.L.Sink.taken c.args.lines.now) (g.L.Sink.taken c.tell.new.lines) (stage_at c.tell.new.self) c.delete_box-done.new.symbols c.delete_box-done.ensures.names e.counts
    (edit_text c.delete_box-done.new.patch (Err c.in-Err.why)) (edit_outcome (Err c.in-Err.why)) c.args.steps.now c.delete_box-done.new.steps
    (left_told c.args.path.now c.args.number e.file.items e.symbols e.library e.counts e.time e.block_end e.fired e.tally e.patch c.delete_box-done.new.patch ready
    c.in-Err.why c.args.steps.now c.delete_box-done.new.steps c.in-Err.ensures.no_looks c.delete_box-done.ensures.goes_on.runs c.in-Err.ensures.refused)
    c.tell.ensures.stage c.tell.ensures.err
