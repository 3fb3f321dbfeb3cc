use Rattle.std.proofs.lemmas.Result.{err_from_is_err_and}
use Rattle.pd_say.proofs.GatheringLemmas.{taken_line, torn_line, broken_line}
use Rattle.pd_hearing.proofs.ResultLemmas.{on_ok_map, on_err_map}
use Rattle.pd_stage.specs.Lines.{path_in, gone_text}
use Rattle.pd_engine.proofs.remarks.print_gone.Goals as goal

pub returns-in_err-say_gone-clause-err : goal.returns-in_err-say_gone-clause-err
returns-in_err-say_gone-clause-err g c =
    let p = err_from_is_err_and c.from_residual.result c.from_residual.ensures.1 in
    rw p.1
    (broken_line (g.L.Sink.taken c.args.lines.now) (g.L.Sink.taken c.say_gone.new.lines) c.clear.new.self.items
    (gone_text (path_in c.args.patch.now c.args.canvas) c.args.gone.now) c.clear.ensures c.in_err-say_gone.ensures.err)

pub returns-clause-ok : goal.returns-clause-ok
returns-clause-ok g c =
    on_ok_map c.flush.result
    (taken_line (g.L.Sink.taken c.args.lines.now) (g.L.Sink.taken c.say_gone.new.lines) (g.L.Sink.taken c.flush.new.sink) c.clear.new.self.items
    c.say_gone.new.held.items (gone_text (path_in c.args.patch.now c.args.canvas) c.args.gone.now) c.clear.ensures c.in_ok-say_gone.ensures.ok)
    c.flush.ensures.ok

pub returns-clause-err : goal.returns-clause-err
returns-clause-err g c =
    on_err_map c.flush.result
    (torn_line (g.L.Sink.taken c.args.lines.now) (g.L.Sink.taken c.say_gone.new.lines) (g.L.Sink.taken c.flush.new.sink) c.clear.new.self.items
    c.say_gone.new.held.items (gone_text (path_in c.args.patch.now c.args.canvas) c.args.gone.now) c.clear.ensures c.in_ok-say_gone.ensures.ok)
    c.flush.ensures.err
