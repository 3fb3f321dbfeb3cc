use Rattle.std.proofs.lemmas.Result.{err_from_is_err_and, on_ok_weaker, on_err_weaker}
use Rattle.pd_say.proofs.GatheringLemmas.{broken_line, taken_line, torn_line}
use Rattle.pd_play.proofs.report.print_line.Goals as goal

pub returns-in_err-put-clause-err : goal.returns-in_err-put-clause-err
returns-in_err-put-clause-err g c =
    let p = err_from_is_err_and c.from_residual.result c.from_residual.ensures.1 in
    rw p.1 (broken_line _ _ _ _ c.requires c.in_err-put.ensures.err)

pub returns-clause-ok : goal.returns-clause-ok
returns-clause-ok g c = on_ok_weaker c.flush.result (λ e. taken_line _ _ _ _ _ _ c.requires c.in_ok-put.ensures.ok e) c.flush.ensures.ok

pub returns-clause-err : goal.returns-clause-err
returns-clause-err g c = on_err_weaker c.flush.result (λ t. torn_line _ _ _ _ _ _ c.requires c.in_ok-put.ensures.ok t) c.flush.ensures.err
