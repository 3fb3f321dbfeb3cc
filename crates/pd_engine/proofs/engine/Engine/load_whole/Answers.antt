use Rattle.std.proofs.Common.{List, ◌≡◌, subst}
use Rattle.std.proofs.lemmas.Result.{err_from_is_err_and, on_ok_weaker, on_err_weaker}
use Rattle.pd_io.specs.Stream.{grown, TookPart}
use Rattle.pd_patch.specs.declared.report.Remark.{Remark}
use Rattle.pd_stage.specs.Leads.{sinks}
use Rattle.pd_engine.specs.Stages.{stage_at}
use Rattle.pd_engine.specs.Remarks.{remarks_text}
use Rattle.pd_engine.proofs.OpeningLemmas.{loads_after, loads_torn, loads_broken}
use Rattle.pd_engine.proofs.engine.Engine.load_whole.Goals as goal

pub returns-clause-ok : goal.returns-clause-ok
returns-clause-ok g c =
    let printed : g.L.Sink.taken c.print_remarks.new.lines ≡ grown (g.L.Sink.taken c.args.lines.now) (remarks_text c.args.self.now.symbols c.args.self.now.patch c.args.report.now.notices.items) =
    subst
    (λ (l : List Remark). g.L.Sink.taken c.print_remarks.new.lines ≡ grown (g.L.Sink.taken c.args.lines.now) (remarks_text c.args.self.now.symbols c.args.self.now.patch l))
    c.as_slice.ensures.value c.in_ok-print_remarks.ensures.ok in
    on_ok_weaker c.load.result
    (λ e looks samples. loads_after (stage_at c.args.self.now) (stage_at c.load.new.self) (remarks_text c.args.self.now.symbols c.args.self.now.patch c.args.report.now.notices.items)
    c.args.report.now.fresh.items c.as_slice-2.result.now (g.L.Sink.taken c.args.lines.now) (g.L.Sink.taken c.print_remarks.new.lines)
    samples looks (g.H.Shelf.holds c.args.shelf.now) (g.H.Shelf.faults c.args.shelf.now) (sinks (g.L.Sink.taken c.load.new.lines) samples looks (g.H.Shelf.holds c.load.new.shelf) (g.H.Shelf.faults c.load.new.shelf)) printed c.as_slice-2.ensures.value (e looks samples))
    c.load.ensures.ok

pub returns-clause-err : goal.returns-clause-err
returns-clause-err g c =
    let printed : g.L.Sink.taken c.print_remarks.new.lines ≡ grown (g.L.Sink.taken c.args.lines.now) (remarks_text c.args.self.now.symbols c.args.self.now.patch c.args.report.now.notices.items) =
    subst
    (λ (l : List Remark). g.L.Sink.taken c.print_remarks.new.lines ≡ grown (g.L.Sink.taken c.args.lines.now) (remarks_text c.args.self.now.symbols c.args.self.now.patch l))
    c.as_slice.ensures.value c.in_ok-print_remarks.ensures.ok in
    on_err_weaker c.load.result
    (λ e looks samples. loads_torn (stage_at c.args.self.now) (stage_at c.load.new.self) (remarks_text c.args.self.now.symbols c.args.self.now.patch c.args.report.now.notices.items)
    c.args.report.now.fresh.items c.as_slice-2.result.now (g.L.Sink.taken c.args.lines.now) (g.L.Sink.taken c.print_remarks.new.lines)
    samples looks (g.H.Shelf.holds c.args.shelf.now) (g.H.Shelf.faults c.args.shelf.now) (sinks (g.L.Sink.taken c.load.new.lines) samples looks (g.H.Shelf.holds c.load.new.shelf) (g.H.Shelf.faults c.load.new.shelf)) printed c.as_slice-2.ensures.value (e looks samples))
    c.load.ensures.err

pub returns-in_err-print_remarks-clause-err : goal.returns-in_err-print_remarks-clause-err
returns-in_err-print_remarks-clause-err g c =
    let p = err_from_is_err_and c.from_residual.result c.from_residual.ensures.1 in
    rw p.1
    (λ looks samples. loads_broken (stage_at c.args.self.now) (stage_at c.args.self.now) (remarks_text c.args.self.now.symbols c.args.self.now.patch c.args.report.now.notices.items)
    c.args.report.now.fresh.items c.args.report.now.fresh.items (g.L.Sink.taken c.args.lines.now) (g.L.Sink.taken c.print_remarks.new.lines) samples looks (g.H.Shelf.holds c.args.shelf.now) (g.H.Shelf.faults c.args.shelf.now)
    (subst
    (λ (l : List Remark). TookPart (g.L.Sink.taken c.args.lines.now) (g.L.Sink.taken c.print_remarks.new.lines) (remarks_text c.args.self.now.symbols c.args.self.now.patch l))
    c.as_slice.ensures.value c.in_err-print_remarks.ensures.err))
