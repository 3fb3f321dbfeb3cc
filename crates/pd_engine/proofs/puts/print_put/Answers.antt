use Rattle.std.proofs.Common.{ap, ◌∙◌, subst, List, ℕ}
use Rattle.std.proofs.lemmas.Result.{err_from_is_err_and}
use Rattle.pd_io.specs.Stream.{grown, TookPart}
use Rattle.pd_say.proofs.GatheringLemmas.{taken_line, torn_line, broken_line}
use Rattle.pd_hearing.proofs.ResultLemmas.{on_ok_map, on_err_map}
use Rattle.pd_engine.specs.Remarks.{part_text}
use Rattle.pd_engine.proofs.PutsLemmas.{part_is}
use Rattle.pd_engine.proofs.puts.print_put.Goals as goal

pub returns-in_err-say_put-clause-err : goal.returns-in_err-say_put-clause-err
returns-in_err-say_put-clause-err g c =
    let p = err_from_is_err_and c.from_residual.result c.from_residual.ensures.1 in
    rw p.1
    (subst (λ (x : List ℕ). TookPart (g.L.Sink.taken c.args.lines.now) (g.L.Sink.taken c.say_put.new.lines) x) (part_is c.args.symbols.now c.args.patch.now c.args.put.now.key c.args.put.now.canvas c.args.put.now.part.items c.requires.part)
    (broken_line (g.L.Sink.taken c.args.lines.now) (g.L.Sink.taken c.say_put.new.lines) c.clear.new.self.items (part_text c.args.symbols.now c.args.patch.now c.args.put.now.key c.args.put.now.canvas c.args.put.now.part.items) c.clear.ensures c.in_err-say_put.ensures.err))

pub returns-clause-ok : goal.returns-clause-ok
returns-clause-ok g c =
    on_ok_map c.flush.result
    (λ e. taken_line (g.L.Sink.taken c.args.lines.now) (g.L.Sink.taken c.say_put.new.lines) (g.L.Sink.taken c.flush.new.sink) c.clear.new.self.items c.say_put.new.held.items
    (part_text c.args.symbols.now c.args.patch.now c.args.put.now.key c.args.put.now.canvas c.args.put.now.part.items) c.clear.ensures c.in_ok-say_put.ensures.ok e
    ∙ ap (λ (x : List ℕ). grown (g.L.Sink.taken c.args.lines.now) x) (part_is c.args.symbols.now c.args.patch.now c.args.put.now.key c.args.put.now.canvas c.args.put.now.part.items c.requires.part))
    c.flush.ensures.ok

pub returns-clause-err : goal.returns-clause-err
returns-clause-err g c =
    on_err_map c.flush.result
    (λ e. subst (λ (x : List ℕ). TookPart (g.L.Sink.taken c.args.lines.now) (g.L.Sink.taken c.flush.new.sink) x) (part_is c.args.symbols.now c.args.patch.now c.args.put.now.key c.args.put.now.canvas c.args.put.now.part.items c.requires.part)
    (torn_line (g.L.Sink.taken c.args.lines.now) (g.L.Sink.taken c.say_put.new.lines) (g.L.Sink.taken c.flush.new.sink) c.clear.new.self.items c.say_put.new.held.items
    (part_text c.args.symbols.now c.args.patch.now c.args.put.now.key c.args.put.now.canvas c.args.put.now.part.items) c.clear.ensures c.in_ok-say_put.ensures.ok e))
    c.flush.ensures.err
