use Rattle.std.proofs.lemmas.Result.{err_from_is_err_and}
use Rattle.pd_hearing.proofs.ResultLemmas.{on_ok_map, on_err_map}
use Rattle.pd_stage.specs.Lines.{loops_if, loops_text, unmades_text}
use Rattle.pd_engine.specs.Remarks.{loops_held, part_text, unfits_held}
use Rattle.pd_engine.proofs.PutsLemmas.{text_is, first_fails, second_fails, third_fails, fourth_fails, last_fails, all_said}
use Rattle.pd_engine.proofs.puts.say_put.Goals as goal

pub returns-in_err-say_unmades-clause-err : goal.returns-in_err-say_unmades-clause-err
returns-in_err-say_unmades-clause-err g c =
    let p = c.args.patch.now in
    let ks = c.as_slice-part.result.now in
    let r = err_from_is_err_and c.from_residual.result c.from_residual.ensures.1 in
    rw r.1
    (first_fails (part_text c.args.symbols.now c.args.patch.now c.args.put.now.key c.args.put.now.canvas c.args.put.now.part.items) (unmades_text c.args.symbols.now p ks) (unfits_held p ks) (loops_if p c.canvas_of_port-around.result) (loops_text p c.args.put.now.canvas) (loops_held p ks)
    (text_is c.args.symbols.now p c.args.put.now.key c.args.put.now.canvas c.canvas_of_port-around.result ks c.args.put.now.part.items c.canvas_of_port-around.ensures c.as_slice-part.ensures.value)
    (g.L.Sink.taken c.args.lines.now) c.args.held.now.items (g.L.Sink.taken c.say_unmades.new.lines) c.in_err-say_unmades.ensures.err)

pub returns-in_err-say_unfits-clause-err : goal.returns-in_err-say_unfits-clause-err
returns-in_err-say_unfits-clause-err g c =
    let p = c.args.patch.now in
    let ks = c.as_slice-part.result.now in
    let r = err_from_is_err_and c.from_residual-in_err-say_unfits.result c.from_residual-in_err-say_unfits.ensures.1 in
    rw r.1
    (second_fails (part_text c.args.symbols.now c.args.patch.now c.args.put.now.key c.args.put.now.canvas c.args.put.now.part.items) (unmades_text c.args.symbols.now p ks) (unfits_held p ks) (loops_if p c.canvas_of_port-around.result) (loops_text p c.args.put.now.canvas) (loops_held p ks)
    (text_is c.args.symbols.now p c.args.put.now.key c.args.put.now.canvas c.canvas_of_port-around.result ks c.args.put.now.part.items c.canvas_of_port-around.ensures c.as_slice-part.ensures.value)
    (g.L.Sink.taken c.args.lines.now) c.args.held.now.items
    (g.L.Sink.taken c.say_unmades.new.lines) c.say_unmades.new.held.items c.in_ok-say_unmades.ensures.ok (g.L.Sink.taken c.say_unfits.new.lines) c.in_err-say_unfits.ensures.err)

pub returns-in_err-say_loop_if-clause-err : goal.returns-in_err-say_loop_if-clause-err
returns-in_err-say_loop_if-clause-err g c =
    let p = c.args.patch.now in
    let ks = c.as_slice-part.result.now in
    let r = err_from_is_err_and c.from_residual-in_err-say_loop_if.result c.from_residual-in_err-say_loop_if.ensures.1 in
    rw r.1
    (third_fails (part_text c.args.symbols.now c.args.patch.now c.args.put.now.key c.args.put.now.canvas c.args.put.now.part.items) (unmades_text c.args.symbols.now p ks) (unfits_held p ks) (loops_if p c.canvas_of_port-around.result) (loops_text p c.args.put.now.canvas) (loops_held p ks)
    (text_is c.args.symbols.now p c.args.put.now.key c.args.put.now.canvas c.canvas_of_port-around.result ks c.args.put.now.part.items c.canvas_of_port-around.ensures c.as_slice-part.ensures.value)
    (g.L.Sink.taken c.args.lines.now) c.args.held.now.items
    (g.L.Sink.taken c.say_unmades.new.lines) c.say_unmades.new.held.items c.in_ok-say_unmades.ensures.ok
    (g.L.Sink.taken c.say_unfits.new.lines) c.say_unfits.new.held.items c.in_ok-say_unfits.ensures.ok (g.L.Sink.taken c.say_loop_if.new.lines) c.in_err-say_loop_if.ensures.err)

pub returns-in_err-say_loop_if-2-clause-err : goal.returns-in_err-say_loop_if-2-clause-err
returns-in_err-say_loop_if-2-clause-err g c =
    let p = c.args.patch.now in
    let ks = c.as_slice-part.result.now in
    let r = err_from_is_err_and c.from_residual-in_err-say_loop_if-2.result c.from_residual-in_err-say_loop_if-2.ensures.1 in
    rw r.1
    (fourth_fails (part_text c.args.symbols.now c.args.patch.now c.args.put.now.key c.args.put.now.canvas c.args.put.now.part.items) (unmades_text c.args.symbols.now p ks) (unfits_held p ks) (loops_if p c.canvas_of_port-around.result) (loops_text p c.args.put.now.canvas) (loops_held p ks)
    (text_is c.args.symbols.now p c.args.put.now.key c.args.put.now.canvas c.canvas_of_port-around.result ks c.args.put.now.part.items c.canvas_of_port-around.ensures c.as_slice-part.ensures.value)
    (g.L.Sink.taken c.args.lines.now) c.args.held.now.items
    (g.L.Sink.taken c.say_unmades.new.lines) c.say_unmades.new.held.items c.in_ok-say_unmades.ensures.ok
    (g.L.Sink.taken c.say_unfits.new.lines) c.say_unfits.new.held.items c.in_ok-say_unfits.ensures.ok
    (g.L.Sink.taken c.say_loop_if.new.lines) c.say_loop_if.new.held.items c.in_ok-say_loop_if.ensures.ok (g.L.Sink.taken c.say_loop_if-2.new.lines) c.in_err-say_loop_if-2.ensures.err)

pub returns-clause-ok : goal.returns-clause-ok
returns-clause-ok g c =
    let p = c.args.patch.now in
    let ks = c.as_slice-part.result.now in
    on_ok_map c.say_loops.result
    (all_said (part_text c.args.symbols.now c.args.patch.now c.args.put.now.key c.args.put.now.canvas c.args.put.now.part.items) (unmades_text c.args.symbols.now p ks) (unfits_held p ks) (loops_if p c.canvas_of_port-around.result) (loops_text p c.args.put.now.canvas) (loops_held p ks)
    (text_is c.args.symbols.now p c.args.put.now.key c.args.put.now.canvas c.canvas_of_port-around.result ks c.args.put.now.part.items c.canvas_of_port-around.ensures c.as_slice-part.ensures.value)
    (g.L.Sink.taken c.args.lines.now) c.args.held.now.items
    (g.L.Sink.taken c.say_unmades.new.lines) c.say_unmades.new.held.items c.in_ok-say_unmades.ensures.ok
    (g.L.Sink.taken c.say_unfits.new.lines) c.say_unfits.new.held.items c.in_ok-say_unfits.ensures.ok
    (g.L.Sink.taken c.say_loop_if.new.lines) c.say_loop_if.new.held.items c.in_ok-say_loop_if.ensures.ok
    (g.L.Sink.taken c.say_loop_if-2.new.lines) c.say_loop_if-2.new.held.items c.in_ok-say_loop_if-2.ensures.ok
    (g.L.Sink.taken c.say_loops.new.lines) c.say_loops.new.held.items)
    c.say_loops.ensures.ok

pub returns-clause-err : goal.returns-clause-err
returns-clause-err g c =
    let p = c.args.patch.now in
    let ks = c.as_slice-part.result.now in
    on_err_map c.say_loops.result
    (last_fails (part_text c.args.symbols.now c.args.patch.now c.args.put.now.key c.args.put.now.canvas c.args.put.now.part.items) (unmades_text c.args.symbols.now p ks) (unfits_held p ks) (loops_if p c.canvas_of_port-around.result) (loops_text p c.args.put.now.canvas) (loops_held p ks)
    (text_is c.args.symbols.now p c.args.put.now.key c.args.put.now.canvas c.canvas_of_port-around.result ks c.args.put.now.part.items c.canvas_of_port-around.ensures c.as_slice-part.ensures.value)
    (g.L.Sink.taken c.args.lines.now) c.args.held.now.items
    (g.L.Sink.taken c.say_unmades.new.lines) c.say_unmades.new.held.items c.in_ok-say_unmades.ensures.ok
    (g.L.Sink.taken c.say_unfits.new.lines) c.say_unfits.new.held.items c.in_ok-say_unfits.ensures.ok
    (g.L.Sink.taken c.say_loop_if.new.lines) c.say_loop_if.new.held.items c.in_ok-say_loop_if.ensures.ok
    (g.L.Sink.taken c.say_loop_if-2.new.lines) c.say_loop_if-2.new.held.items c.in_ok-say_loop_if-2.ensures.ok
    (g.L.Sink.taken c.say_loops.new.lines))
    c.say_loops.ensures.err
