use Rattle.std.proofs.lemmas.Result.{err_from_is_err_and}
use Rattle.pd_say.proofs.GatheringLemmas.{took_more}
use Rattle.pd_stage.specs.Lines.{loops_if, loops_text}
use Rattle.pd_engine.proofs.MakingLemmas.{took_behind, said_behind}
use Rattle.pd_engine.proofs.engine.Engine.tell_moved.Goals as goal

pub returns-in_err-print_loop_around-clause-err : goal.returns-in_err-print_loop_around-clause-err
returns-in_err-print_loop_around-clause-err g c =
    let p = err_from_is_err_and c.from_residual.result c.from_residual.ensures.1 in
    let e = c.args.self.now in
    let b = c.args.moved in
    rw p.1
    (took_more (g.L.Sink.taken c.args.lines.now) (g.L.Sink.taken c.print_loop_around.new.lines) (loops_if e.patch b.around) (loops_text e.patch b.canvas)
    c.in_err-print_loop_around.ensures.err)

pub returns-in_err-print_loop-clause-err : goal.returns-in_err-print_loop-clause-err
returns-in_err-print_loop-clause-err g c =
    let p = err_from_is_err_and c.from_residual-in_err-print_loop.result c.from_residual-in_err-print_loop.ensures.1 in
    let e = c.args.self.now in
    let b = c.args.moved in
    rw p.1
    (took_behind (g.L.Sink.taken c.args.lines.now) (g.L.Sink.taken c.print_loop_around.new.lines) (g.L.Sink.taken c.print_loop.new.lines) (loops_if e.patch b.around) (loops_text e.patch b.canvas)
    c.in_ok-print_loop_around.ensures.ok c.in_err-print_loop.ensures.err)

pub returns-clause-ok : goal.returns-clause-ok
returns-clause-ok g c =
    let e = c.args.self.now in
    let b = c.args.moved in
    said_behind (g.L.Sink.taken c.args.lines.now) (g.L.Sink.taken c.print_loop_around.new.lines) (g.L.Sink.taken c.print_loop.new.lines) (loops_if e.patch b.around) (loops_text e.patch b.canvas)
    c.in_ok-print_loop_around.ensures.ok c.in_ok-print_loop.ensures.ok
