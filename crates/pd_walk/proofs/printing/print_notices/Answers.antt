use Rattle.std.proofs.Common.{◌<◌, length, arith}
use Rattle.std.proofs.lemmas.Result.{err_from_is_err_and}
use Rattle.pd_walk.specs.Acts.{notice_text}
use Rattle.pd_say.proofs.RowLemmas.{says_more, fails_within}
use Rattle.pd_walk.proofs.printing.print_notices.Goals as goal

pub returns-in_err-print_notice-clause-err : goal.returns-in_err-print_notice-clause-err
returns-in_err-print_notice-clause-err g c =
    let p = err_from_is_err_and c.from_residual.result c.from_residual.ensures.1 in
    let lt : c.loop-notice.notice-index < length c.args.notices.now = omega arith in
    rw p.1
    (fails_within (notice_text c.args.symbols.now) c.args.notices.now c.loop-notice.notice-index c.notice-item.result _ _ _ _ _ lt c.notice-item.is
    c.loop-notice.invariant.says c.in_err-print_notice.ensures.err)

pub loop-notice-preserved : goal.loop-notice-preserved
loop-notice-preserved g c =
    let lt : c.loop-notice.notice-index < length c.args.notices.now = omega arith in
    record {
      says = says_more (notice_text c.args.symbols.now) c.args.notices.now c.loop-notice.notice-index c.notice-item.result _ _ _ _ _ _ lt c.notice-item.is
          c.loop-notice.invariant.says c.in_ok-print_notice.ensures.ok;
      counted = omega arith;
    }
