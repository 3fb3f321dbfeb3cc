use Rattle.std.proofs.Common.{◌<◌, length, get_or, arith}
use Rattle.std.proofs.lemmas.Result.{err_from_is_err_and}
use Rattle.pd_patch.specs.declared.report.Remark.{Remark}
use Rattle.pd_patch.specs.declared.report.Remark.TheVariants.{NotMade}
use Rattle.pd_say.proofs.RowLemmas.{says_more, fails_within, get_or-any}
use Rattle.pd_engine.specs.Remarks.{remark_text}
use Rattle.pd_engine.proofs.remarks.say_remarks.Goals as goal

pub returns-in_err-say_remark-clause-err : goal.returns-in_err-say_remark-clause-err
returns-in_err-say_remark-clause-err g c =
    let p = err_from_is_err_and c.from_residual.result c.from_residual.ensures.1 in
    let lt : c.loop-remark.remark-index < length c.args.remarks.now = omega arith in
    let x : Remark = get_or c.args.remarks.now c.loop-remark.remark-index (NotMade 0) in
    rw p.1
    (fails_within (remark_text c.args.symbols.now c.args.patch.now) c.args.remarks.now c.loop-remark.remark-index x _ _ _ _ _ lt
    (get_or-any c.args.remarks.now c.loop-remark.remark-index (NotMade 0) x lt) c.loop-remark.invariant.says c.in_err-say_remark.ensures.err)

pub loop-remark-preserved : goal.loop-remark-preserved
loop-remark-preserved g c =
    let lt : c.loop-remark.remark-index < length c.args.remarks.now = omega arith in
    let x : Remark = get_or c.args.remarks.now c.loop-remark.remark-index (NotMade 0) in
    record {
      says = says_more (remark_text c.args.symbols.now c.args.patch.now) c.args.remarks.now c.loop-remark.remark-index x _ _ _ _ _ _ lt
          (get_or-any c.args.remarks.now c.loop-remark.remark-index (NotMade 0) x lt) c.loop-remark.invariant.says c.in_ok-say_remark.ensures.ok;
      counted = omega arith;
    }
