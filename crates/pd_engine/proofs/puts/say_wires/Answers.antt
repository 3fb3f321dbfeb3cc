use Rattle.std.proofs.Common.{◌<◌, length, get_or, arith}
use Rattle.std.proofs.lemmas.Result.{err_from_is_err_and}
use Rattle.pd_canvas.specs.declared.wires.Wire.{Wire}
use Rattle.pd_say.proofs.RowLemmas.{says_more, fails_within, get_or-any}
use Rattle.pd_engine.specs.Remarks.{unfit_if}
use Rattle.pd_engine.proofs.puts.say_wires.Goals as goal

pub returns-in_err-say_wire-clause-err : goal.returns-in_err-say_wire-clause-err
returns-in_err-say_wire-clause-err g c =
    let p = err_from_is_err_and c.from_residual.result c.from_residual.ensures.1 in
    let lt : c.loop-wire.wire-index < length c.args.wires.now = omega arith in
    let x : Wire = get_or c.args.wires.now c.loop-wire.wire-index (record { source = 0; outlet = 0; sink = 0; inlet = 0 }) in
    rw p.1
    (fails_within (unfit_if c.args.patch.now c.args.canvas) c.args.wires.now c.loop-wire.wire-index x _ _ _ _ _ lt (get_or-any c.args.wires.now c.loop-wire.wire-index (record { source = 0; outlet = 0; sink = 0; inlet = 0 }) x lt)
    c.loop-wire.invariant.says c.in_err-say_wire.ensures.err)

pub loop-wire-preserved : goal.loop-wire-preserved
loop-wire-preserved g c =
    let lt : c.loop-wire.wire-index < length c.args.wires.now = omega arith in
    let x : Wire = get_or c.args.wires.now c.loop-wire.wire-index (record { source = 0; outlet = 0; sink = 0; inlet = 0 }) in
    record {
      says = says_more (unfit_if c.args.patch.now c.args.canvas) c.args.wires.now c.loop-wire.wire-index x _ _ _ _ _ _ lt (get_or-any c.args.wires.now c.loop-wire.wire-index (record { source = 0; outlet = 0; sink = 0; inlet = 0 }) x lt)
          c.loop-wire.invariant.says c.in_ok-say_wire.ensures.ok;
      counted = omega arith;
    }
