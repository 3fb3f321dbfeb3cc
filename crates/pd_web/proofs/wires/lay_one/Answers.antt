use Rattle.std.proofs.Common.{◌++◌, List, length, sym, ap, ◌∙◌, subst, OnOk, arith}
use Rattle.std.proofs.lemmas.Result.{on_ok_weaker}
use Rattle.pd_web.specs.Lines.{Line, IsLaid}
use Rattle.pd_web.proofs.LineLemmas.{one_line, no_line, line_route, laid_none}
use Rattle.pd_web.proofs.wires.lay_one.Goals as goal

pub join_counted-requires-clause-route : goal.join_counted-requires-clause-route
join_counted-requires-clause-route c = line_route c.args.sockets.now c.args.keys.now c.args.wire.now c.in-Some.line (sym c.line_of.ensures ∙ c.in-Some.is)

pub returns-in-Some-clause-laid : goal.returns-in-Some-clause-laid
returns-in-Some-clause-laid c = λ ls l.
    let P : List Line → Type 0 = λ xs. OnOk c.join_counted.result (IsLaid c.join_counted.new.sockets c.join_counted.new.book (ls ++ xs)) in
    subst P (sym (one_line c.args.sockets.now c.args.keys.now c.args.wire.now c.in-Some.line (sym c.line_of.ensures ∙ c.in-Some.is))) (c.join_counted.ensures.laid ls l)

pub returns-in-Some-clause-left : goal.returns-in-Some-clause-left
returns-in-Some-clause-left c =
    on_ok_weaker c.join_counted.result (λ h. let e = ap length (one_line c.args.sockets.now c.args.keys.now c.args.wire.now c.in-Some.line (sym c.line_of.ensures ∙ c.in-Some.is)) in omega (arith, e, h))
    c.join_counted.ensures.left

pub returns-in-Some-clause-many : goal.returns-in-Some-clause-many
returns-in-Some-clause-many c = λ h.
    let e = ap length (one_line c.args.sockets.now c.args.keys.now c.args.wire.now c.in-Some.line (sym c.line_of.ensures ∙ c.in-Some.is)) in
    let z = c.join_counted.ensures.many h in
    omega (arith, e, z)

pub returns-in-None-clause-laid : goal.returns-in-None-clause-laid
returns-in-None-clause-laid c = λ ls l. laid_none c.args.sockets.now c.args.keys.now c.args.wire.now c.args.book.now ls (sym c.line_of.ensures ∙ c.in-None.is) l

pub returns-in-None-clause-left : goal.returns-in-None-clause-left
returns-in-None-clause-left c = let e = ap length (no_line c.args.sockets.now c.args.keys.now c.args.wire.now (sym c.line_of.ensures ∙ c.in-None.is)) in omega (arith, e)

pub returns-in-Some-clause-counted : goal.returns-in-Some-clause-counted
returns-in-Some-clause-counted c =
    on_ok_weaker c.join_counted.result (λ h. let e = ap length (one_line c.args.sockets.now c.args.keys.now c.args.wire.now c.in-Some.line (sym c.line_of.ensures ∙ c.in-Some.is)) in omega (arith, e, h))
    c.join_counted.ensures.counted

pub returns-in-None-clause-counted : goal.returns-in-None-clause-counted
returns-in-None-clause-counted c = let e = ap length (no_line c.args.sockets.now c.args.keys.now c.args.wire.now (sym c.line_of.ensures ∙ c.in-None.is)) in omega (arith, e)
