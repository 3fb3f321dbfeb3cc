use Rattle.std.proofs.Common.{◌<◌, length, get_or, arith}
use Rattle.std.proofs.lemmas.Result.{err_from_is_err_and}
use Rattle.pd_say.specs.Paths.{after_mark}
use Rattle.pd_say.proofs.RowLemmas.{says_more, fails_within, get_or-any}
use Rattle.pd_say.proofs.paths.put_marked.Goals as goal

pub returns-in_err-put_marked_number-clause-err : goal.returns-in_err-put_marked_number-clause-err
returns-in_err-put_marked_number-clause-err g c =
    let p = err_from_is_err_and c.from_residual.result c.from_residual.ensures.1 in
    let lt : c.loop-number.number-index < length c.args.numbers.now = omega arith in
    rw p.1
    (fails_within (after_mark c.args.mark) c.args.numbers.now c.loop-number.number-index (get_or c.args.numbers.now c.loop-number.number-index 0) _ _ _ _ _ lt
    (get_or-any c.args.numbers.now c.loop-number.number-index _ _ lt) c.loop-number.invariant.says c.in_err-put_marked_number.ensures.err)

pub loop-number-preserved : goal.loop-number-preserved
loop-number-preserved g c =
    let lt : c.loop-number.number-index < length c.args.numbers.now = omega arith in
    record {
      says = says_more (after_mark c.args.mark) c.args.numbers.now c.loop-number.number-index (get_or c.args.numbers.now c.loop-number.number-index 0) _ _ _ _ _ _ lt
          (get_or-any c.args.numbers.now c.loop-number.number-index _ _ lt) c.loop-number.invariant.says c.in_ok-put_marked_number.ensures.ok;
      counted = omega arith;
    }
