use Rattle.std.proofs.Common.{arith}
use Rattle.std.proofs.lemmas.Result.{err_from_is_err_and}
use Rattle.pd_stage.specs.PassedOn.{BoxWire}
use Rattle.pd_say.proofs.RowLemmas.{says_more, fails_within}
use Rattle.pd_stage.specs.Lines.{path_in, unfit_text}
use Rattle.pd_engine.proofs.remarks.say_gone.Goals as goal

pub returns-in_err-say_unfit-clause-err : goal.returns-in_err-say_unfit-clause-err
returns-in_err-say_unfit-clause-err g c =
    let p = err_from_is_err_and c.from_residual.result c.from_residual.ensures.1 in
    rw p.1
    (fails_within (λ (m : BoxWire). unfit_text (path_in c.args.patch.now c.args.canvas) m.wire) c.args.gone.now c.loop-wire.wire-index c.wire-item.result _ _ _ _ _ c.loop-wire-test.true c.wire-item.is
    c.loop-wire.invariant.says c.in_err-say_unfit.ensures.err)

pub loop-wire-preserved : goal.loop-wire-preserved
loop-wire-preserved g c = record {
  says = says_more (λ (m : BoxWire). unfit_text (path_in c.args.patch.now c.args.canvas) m.wire) c.args.gone.now c.loop-wire.wire-index c.wire-item.result _ _ _ _ _ _ c.loop-wire-test.true c.wire-item.is
      c.loop-wire.invariant.says c.in_ok-say_unfit.ensures.ok;
  counted = omega arith;
}
