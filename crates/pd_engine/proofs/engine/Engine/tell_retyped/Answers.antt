use Rattle.std.proofs.Common.{◌≡◌, ◌++◌, List, ℕ, Option, subst}
use Rattle.std.proofs.lemmas.Result.{err_from_is_err_and}
use Rattle.slab.specs.Slab.{get}
use Rattle.pd_io.specs.Stream.{grown, TookPart}
use Rattle.pd_say.proofs.GatheringLemmas.{took_more}
use Rattle.pd_patch.specs.Telling.{fault_in}
use Rattle.pd_stage.specs.PassedOn.{BoxWire}
use Rattle.pd_stage.specs.Lines.{gone_text, loops_text, path_in, unmade_text}
use Rattle.pd_engine.proofs.MakingLemmas.{took_first, took_last, said_all}
use Rattle.pd_engine.proofs.engine.Engine.tell_retyped.Goals as goal

pub returns-in_err-print_unmade-clause-err : goal.returns-in_err-print_unmade-clause-err
returns-in_err-print_unmade-clause-err g c =
    let p = err_from_is_err_and c.from_residual.result c.from_residual.ensures.1 in
    let e = c.args.self.now in
    let b = c.args.retyped.now in
    let unmade : List ℕ = unmade_text e.symbols (fault_in (get e.patch.grove.nodes b.key)) in
    let others : List ℕ = gone_text (path_in e.patch b.canvas) b.gone.items ++ loops_text e.patch b.canvas in
    rw p.1 (took_more (g.L.Sink.taken c.args.lines.now) (g.L.Sink.taken c.print_unmade.new.lines) unmade others c.in_err-print_unmade.ensures.err)

pub returns-in_err-print_gone-clause-err : goal.returns-in_err-print_gone-clause-err
returns-in_err-print_gone-clause-err g c =
    let p = err_from_is_err_and c.from_residual-in_err-print_gone.result c.from_residual-in_err-print_gone.ensures.1 in
    let e = c.args.self.now in
    let b = c.args.retyped.now in
    let unmade : List ℕ = unmade_text e.symbols (fault_in (get e.patch.grove.nodes b.key)) in
    let t : Option (List ℕ) = g.L.Sink.taken c.print_unmade.new.lines in
    let u : Option (List ℕ) = g.L.Sink.taken c.print_gone.new.lines in
    rw p.1
    (took_first (g.L.Sink.taken c.args.lines.now) t u unmade (gone_text (path_in e.patch b.canvas) b.gone.items) (loops_text e.patch b.canvas) c.in_ok-print_unmade.ensures.ok
    (subst (λ (ms : List BoxWire). TookPart t u (gone_text (path_in e.patch b.canvas) ms)) c.as_slice.ensures.value c.in_err-print_gone.ensures.err))

pub returns-in_err-print_loop-clause-err : goal.returns-in_err-print_loop-clause-err
returns-in_err-print_loop-clause-err g c =
    let p = err_from_is_err_and c.from_residual-in_err-print_loop.result c.from_residual-in_err-print_loop.ensures.1 in
    let e = c.args.self.now in
    let b = c.args.retyped.now in
    let unmade : List ℕ = unmade_text e.symbols (fault_in (get e.patch.grove.nodes b.key)) in
    let t : Option (List ℕ) = g.L.Sink.taken c.print_unmade.new.lines in
    let u : Option (List ℕ) = g.L.Sink.taken c.print_gone.new.lines in
    rw p.1
    (took_last (g.L.Sink.taken c.args.lines.now) t u (g.L.Sink.taken c.print_loop.new.lines) unmade (gone_text (path_in e.patch b.canvas) b.gone.items) (loops_text e.patch b.canvas)
    c.in_ok-print_unmade.ensures.ok (subst (λ (ms : List BoxWire). u ≡ grown t (gone_text (path_in e.patch b.canvas) ms)) c.as_slice.ensures.value c.in_ok-print_gone.ensures.ok)
    c.in_err-print_loop.ensures.err)

pub returns-clause-ok : goal.returns-clause-ok
returns-clause-ok g c =
    let e = c.args.self.now in
    let b = c.args.retyped.now in
    let unmade : List ℕ = unmade_text e.symbols (fault_in (get e.patch.grove.nodes b.key)) in
    let t : Option (List ℕ) = g.L.Sink.taken c.print_unmade.new.lines in
    let u : Option (List ℕ) = g.L.Sink.taken c.print_gone.new.lines in
    said_all (g.L.Sink.taken c.args.lines.now) t u (g.L.Sink.taken c.print_loop.new.lines) unmade (gone_text (path_in e.patch b.canvas) b.gone.items) (loops_text e.patch b.canvas)
    c.in_ok-print_unmade.ensures.ok (subst (λ (ms : List BoxWire). u ≡ grown t (gone_text (path_in e.patch b.canvas) ms)) c.as_slice.ensures.value c.in_ok-print_gone.ensures.ok)
    c.in_ok-print_loop.ensures.ok
