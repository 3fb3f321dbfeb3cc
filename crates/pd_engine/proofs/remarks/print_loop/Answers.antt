use Rattle.std.proofs.Common.{◌≡◌, true, sym, subst, ap, ◌∙◌, List, ℕ}
use Rattle.std.proofs.lemmas.Result.{err_from_is_err_and}
use Rattle.pd_io.specs.Stream.{grown, TookPart}
use Rattle.pd_patch.specs.Telling.{order_in, is_looped}
use Rattle.pd_say.proofs.GatheringLemmas.{taken_line, torn_line, broken_line}
use Rattle.pd_hearing.proofs.ResultLemmas.{on_ok_map, on_err_map}
use Rattle.pd_stage.specs.Lines.{loop_text}
use Rattle.pd_engine.proofs.ShowLemmas.{loops_some}
use Rattle.pd_engine.proofs.remarks.print_loop.Goals as goal

pub returns-in_err-say_loop-clause-err : goal.returns-in_err-say_loop-clause-err
returns-in_err-say_loop-clause-err g c =
    let p = err_from_is_err_and c.from_residual.result c.from_residual.ensures.1 in
    let looped : is_looped (order_in c.args.patch.now.orders.items c.args.canvas) ≡ true = sym c.has_loop.ensures ∙ c.if-not-has_loop.false in
    rw p.1
    (subst (λ (x : List ℕ). TookPart (g.L.Sink.taken c.args.lines.now) (g.L.Sink.taken c.say_loop.new.lines) x) (sym (loops_some c.args.patch.now c.args.canvas looped))
    (broken_line (g.L.Sink.taken c.args.lines.now) (g.L.Sink.taken c.say_loop.new.lines) c.clear.new.self.items (loop_text c.args.patch.now c.args.canvas) c.clear.ensures c.in_err-say_loop.ensures.err))

pub returns-clause-ok : goal.returns-clause-ok
returns-clause-ok g c =
    let looped : is_looped (order_in c.args.patch.now.orders.items c.args.canvas) ≡ true = sym c.has_loop.ensures ∙ c.if-not-has_loop.false in
    on_ok_map c.flush.result
    (λ e. taken_line (g.L.Sink.taken c.args.lines.now) (g.L.Sink.taken c.say_loop.new.lines) (g.L.Sink.taken c.flush.new.sink) c.clear.new.self.items c.say_loop.new.held.items
    (loop_text c.args.patch.now c.args.canvas) c.clear.ensures c.in_ok-say_loop.ensures.ok e
    ∙ ap (λ (x : List ℕ). grown (g.L.Sink.taken c.args.lines.now) x) (sym (loops_some c.args.patch.now c.args.canvas looped)))
    c.flush.ensures.ok

pub returns-clause-err : goal.returns-clause-err
returns-clause-err g c =
    let looped : is_looped (order_in c.args.patch.now.orders.items c.args.canvas) ≡ true = sym c.has_loop.ensures ∙ c.if-not-has_loop.false in
    on_err_map c.flush.result
    (λ e. subst (λ (x : List ℕ). TookPart (g.L.Sink.taken c.args.lines.now) (g.L.Sink.taken c.flush.new.sink) x) (sym (loops_some c.args.patch.now c.args.canvas looped))
    (torn_line (g.L.Sink.taken c.args.lines.now) (g.L.Sink.taken c.say_loop.new.lines) (g.L.Sink.taken c.flush.new.sink) c.clear.new.self.items c.say_loop.new.held.items
    (loop_text c.args.patch.now c.args.canvas) c.clear.ensures c.in_ok-say_loop.ensures.ok e))
    c.flush.ensures.err
