use Rattle.std.proofs.Common.{◌++◌, List, take, subst, arith}
use Rattle.std.proofs.lemmas.Result.{err_from_is_err_and}
use Rattle.pd_canvas.specs.declared.wires.Wire.{Wire}
use Rattle.pd_web.specs.Lines.{Line, IsLaid, laid_lines}
use Rattle.pd_web.proofs.SocketLemmas.{keeps_more}
use Rattle.pd_web.proofs.LineLemmas.{laid_more, more_counted, all_fewer}
use Rattle.pd_web.proofs.wires.lay_all.Goals as goal

no_wire : Wire
no_wire = record { source = 0; outlet = 0; sink = 0; inlet = 0 }

pub loop-wire-preserved : goal.loop-wire-preserved
unfolding no_wire
loop-wire-preserved c =
    let all = c.args.sockets.now in
    let keys = c.args.keys.now in
    let ws = c.args.wires.now in
    let i = c.loop-wire.wire-index in
    let inv = c.loop-wire.invariant in
    let step = c.in_ok-lay_one.ensures in
    let more = more_counted all c.loop-wire.sockets keys ws i no_wire c.loop-wire-test.true inv.keeps in
    let left = step.left in
    let had = inv.left in
    let counted = step.counted in
    let had_counted = inv.counted in
    record {
      tied = step.tied;
      keeps = keeps_more all c.loop-wire.sockets c.lay_one.new.sockets inv.keeps step.keeps;
      laid = λ ls l.
          let P : List Line → Type 0 = λ xs. IsLaid c.lay_one.new.sockets c.lay_one.new.book xs in
          subst P (laid_more all c.loop-wire.sockets keys ws i no_wire ls c.loop-wire-test.true inv.keeps) (step.laid (ls ++ laid_lines all keys (take i ws)) (inv.laid ls l));
      counted = omega (arith, more, counted, had_counted);
      left = omega (arith, more, left, had);
    }

pub returns-in_err-lay_one-clause-many : goal.returns-in_err-lay_one-clause-many
unfolding no_wire
returns-in_err-lay_one-clause-many c =
    let p = err_from_is_err_and c.from_residual.result c.from_residual.ensures.1 in
    let inv = c.loop-wire.invariant in
    let f = all_fewer c.args.sockets.now c.loop-wire.sockets c.args.keys.now c.args.wires.now c.loop-wire.wire-index no_wire c.loop-wire-test.true inv.keeps in
    let left = inv.left in
    rw (p.1, p.2) (λ h. let z = c.in_err-lay_one.ensures.many h in omega (arith, f, left, z))
