use Rattle.pd_stage.specs.Choices.{base_of}
use Rattle.std.proofs.Common.{◌≡◌, ap, ◌∙◌, sym, subst, List, ℕ, Err}
use Rattle.std.proofs.lemmas.Result.{err_from_is_err_and}
use Rattle.pd_io.specs.Rows.{stored}
use Rattle.pd_io.specs.Stream.{grown, TookPart}
use Rattle.pd_io.specs.declared.shelves.ShelfError.{ShelfError}
use Rattle.pd_doc.specs.Writing.{text_of}
use Rattle.pd_patch.specs.Document.{present_document}
use Rattle.pd_say.specs.Lines.{refusal_text}
use Rattle.pd_say.specs.declared.refusals.Request.TheVariants as request
use Rattle.pd_say.specs.declared.refusals.Why.{Why}
use Rattle.pd_wiring.specs.declared.refusals.EditRefusal.{EditRefusal}
use Rattle.pd_stage.specs.Lawful.{why_of}
use Rattle.pd_stage.specs.Leads.{sinks}
use Rattle.pd_engine.specs.declared.refusals.Outcome.TheVariants.{Refused}
use Rattle.pd_engine.specs.Edits.{IsSavedSo}
use Rattle.pd_engine.specs.Refusals.{unsaved}
use Rattle.pd_engine.specs.Stages.{stage_at}
use Rattle.pd_engine.proofs.RewireLemmas.{ready_sure}
use Rattle.pd_engine.proofs.SavingLemmas.{save_so, refused_so, refused_part}
use Rattle.pd_engine.proofs.engine.Engine.save_own.Goals as goal

pub returns-in_default-clause-ok : goal.returns-in_default-clause-ok
returns-in_default-clause-ok g c = λ samples looks.
    let e = c.args.self.now in
    save_so e.file.items e.patch e.symbols (base_of e.library e.counts) e.time e.block_end e.fired e.tally (ready_sure e.patch e.puts e.meet) (g.L.Sink.taken c.args.lines.now) samples looks
    (g.H.Shelf.holds c.args.shelf.now) (g.H.Shelf.holds c.put_document-put.new.shelf) (g.H.Shelf.faults c.args.shelf.now) (g.H.Shelf.faults c.put_document-put.new.shelf) c.put_document-put.ensures.counted
    c.len-names.ensures.table c.wires_stand_once.ensures
    (c.in_default.ensures.put ∙ ap (λ (n : List ℕ). stored n (text_of e.symbols (present_document e.patch)) (g.H.Shelf.holds c.args.shelf.now)) c.as_slice-name.ensures.value)

pub returns-in_err-print_refusal-clause-err : goal.returns-in_err-print_refusal-clause-err
returns-in_err-print_refusal-clause-err g c =
    let p = err_from_is_err_and c.from_residual.result c.from_residual.ensures.1 in
    let e = c.args.self.now in
    let error : ShelfError = c.in-Err.error in
    let reason : c.why_of.result ≡ why_of (unsaved error) = c.why_of.ensures ∙ ap (λ (r : EditRefusal). why_of r) c.unsaved-refusal.ensures in
    rw p.1
    (λ samples looks.
    refused_part e.file.items e.patch e.symbols (base_of e.library e.counts) e.time e.block_end e.fired e.tally (ready_sure e.patch e.puts e.meet) (g.L.Sink.taken c.args.lines.now) samples looks
    (g.H.Shelf.holds c.args.shelf.now) (g.H.Shelf.holds c.put_document-put.new.shelf) (g.H.Shelf.faults c.args.shelf.now) (g.H.Shelf.faults c.put_document-put.new.shelf) c.put_document-put.ensures.counted
    error (g.L.Sink.taken c.print_refusal.new.lines) (λ is. (c.in-Err.ensures.failed (ap (λ (x : ShelfError). Err x) is), c.in-Err.ensures.cause (ap (λ (x : ShelfError). Err x) is)))
    (λ is. c.in-Err.ensures.none (ap (λ (x : ShelfError). Err x) is))
    (subst (λ (w : Why). TookPart (g.L.Sink.taken c.args.lines.now) (g.L.Sink.taken c.print_refusal.new.lines) (refusal_text request.Save w)) reason c.in_err-print_refusal.ensures.err))

pub returns-clause-ok : goal.returns-clause-ok
returns-clause-ok g c = λ samples looks.
    let e = c.args.self.now in
    let error : ShelfError = c.in-Err.error in
    let reason : c.why_of.result ≡ why_of (unsaved error) = c.why_of.ensures ∙ ap (λ (r : EditRefusal). why_of r) c.unsaved-refusal.ensures in
    subst
    (λ (r : EditRefusal). IsSavedSo (Refused r) (stage_at e) (stage_at e) (sinks (g.L.Sink.taken c.args.lines.now) samples looks (g.H.Shelf.holds c.args.shelf.now) (g.H.Shelf.faults c.args.shelf.now))
    (sinks (g.L.Sink.taken c.print_refusal.new.lines) samples looks (g.H.Shelf.holds c.put_document-put.new.shelf) (g.H.Shelf.faults c.put_document-put.new.shelf)))
    (sym c.unsaved-refusal.ensures)
    (refused_so e.file.items e.patch e.symbols (base_of e.library e.counts) e.time e.block_end e.fired e.tally (ready_sure e.patch e.puts e.meet) (g.L.Sink.taken c.args.lines.now) samples looks
    (g.H.Shelf.holds c.args.shelf.now) (g.H.Shelf.holds c.put_document-put.new.shelf) (g.H.Shelf.faults c.args.shelf.now) (g.H.Shelf.faults c.put_document-put.new.shelf) c.put_document-put.ensures.counted
    error (g.L.Sink.taken c.print_refusal.new.lines) (λ is. (c.in-Err.ensures.failed (ap (λ (x : ShelfError). Err x) is), c.in-Err.ensures.cause (ap (λ (x : ShelfError). Err x) is)))
    (λ is. c.in-Err.ensures.none (ap (λ (x : ShelfError). Err x) is))
    (c.in_ok-print_refusal.ensures.ok ∙ ap (λ (w : Why). grown (g.L.Sink.taken c.args.lines.now) (refusal_text request.Save w)) reason))
