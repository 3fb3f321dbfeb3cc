use Rattle.std.proofs.Common.{◌≡◌, ◌++◌, List, ℕ, Option, subst}
use Rattle.std.proofs.lemmas.Result.{err_from_is_err_and}
use Rattle.pd_io.specs.Stream.{grown, TookPart}
use Rattle.pd_say.proofs.GatheringLemmas.{took_more}
use Rattle.pd_stage.specs.PassedOn.{BoxWire}
use Rattle.pd_stage.specs.Lines.{gone_around, loops_if, loops_text}
use Rattle.pd_engine.proofs.MakingLemmas.{took_first, took_last, said_all}
use Rattle.pd_engine.proofs.engine.Engine.tell_deleted.Goals as goal

pub returns-in_err-print_gone_around-clause-err : goal.returns-in_err-print_gone_around-clause-err
returns-in_err-print_gone_around-clause-err g c =
    let p = err_from_is_err_and c.from_residual.result c.from_residual.ensures.1 in
    let e = c.args.self.now in
    let b = c.args.deleted.now in
    let t : Option (List ℕ) = g.L.Sink.taken c.args.lines.now in
    let u : Option (List ℕ) = g.L.Sink.taken c.print_gone_around.new.lines in
    rw p.1
    (took_more t u (gone_around e.patch b.around b.gone.items) (loops_if e.patch b.around ++ loops_text e.patch b.canvas)
    (subst (λ (ms : List BoxWire). TookPart t u (gone_around e.patch b.around ms)) c.as_slice.ensures.value c.in_err-print_gone_around.ensures.err))

pub returns-in_err-print_loop_around-clause-err : goal.returns-in_err-print_loop_around-clause-err
returns-in_err-print_loop_around-clause-err g c =
    let p = err_from_is_err_and c.from_residual-in_err-print_loop_around.result c.from_residual-in_err-print_loop_around.ensures.1 in
    let e = c.args.self.now in
    let b = c.args.deleted.now in
    let t : Option (List ℕ) = g.L.Sink.taken c.args.lines.now in
    let u : Option (List ℕ) = g.L.Sink.taken c.print_gone_around.new.lines in
    rw p.1
    (took_first t u (g.L.Sink.taken c.print_loop_around.new.lines) (gone_around e.patch b.around b.gone.items) (loops_if e.patch b.around) (loops_text e.patch b.canvas)
    (subst (λ (ms : List BoxWire). u ≡ grown t (gone_around e.patch b.around ms)) c.as_slice.ensures.value c.in_ok-print_gone_around.ensures.ok) c.in_err-print_loop_around.ensures.err)

pub returns-in_err-print_loop-clause-err : goal.returns-in_err-print_loop-clause-err
returns-in_err-print_loop-clause-err g c =
    let p = err_from_is_err_and c.from_residual-in_err-print_loop.result c.from_residual-in_err-print_loop.ensures.1 in
    let e = c.args.self.now in
    let b = c.args.deleted.now in
    let t : Option (List ℕ) = g.L.Sink.taken c.args.lines.now in
    let u : Option (List ℕ) = g.L.Sink.taken c.print_gone_around.new.lines in
    rw p.1
    (took_last t u (g.L.Sink.taken c.print_loop_around.new.lines) (g.L.Sink.taken c.print_loop.new.lines) (gone_around e.patch b.around b.gone.items) (loops_if e.patch b.around) (loops_text e.patch b.canvas)
    (subst (λ (ms : List BoxWire). u ≡ grown t (gone_around e.patch b.around ms)) c.as_slice.ensures.value c.in_ok-print_gone_around.ensures.ok) c.in_ok-print_loop_around.ensures.ok
    c.in_err-print_loop.ensures.err)

pub returns-clause-ok : goal.returns-clause-ok
returns-clause-ok g c =
    let e = c.args.self.now in
    let b = c.args.deleted.now in
    let t : Option (List ℕ) = g.L.Sink.taken c.args.lines.now in
    let u : Option (List ℕ) = g.L.Sink.taken c.print_gone_around.new.lines in
    said_all t u (g.L.Sink.taken c.print_loop_around.new.lines) (g.L.Sink.taken c.print_loop.new.lines) (gone_around e.patch b.around b.gone.items) (loops_if e.patch b.around) (loops_text e.patch b.canvas)
    (subst (λ (ms : List BoxWire). u ≡ grown t (gone_around e.patch b.around ms)) c.as_slice.ensures.value c.in_ok-print_gone_around.ensures.ok) c.in_ok-print_loop_around.ensures.ok
    c.in_ok-print_loop.ensures.ok
