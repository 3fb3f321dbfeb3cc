use Rattle.std.proofs.lemmas.Result.{err_from_is_err_and, on_err_weaker}
use Rattle.pd_say.proofs.GatheringLemmas.{says_then_fails, fails_sooner}
use Rattle.pd_play.proofs.report.put_pair.Goals as goal

pub returns-in_err-put-clause-err : goal.returns-in_err-put-clause-err
returns-in_err-put-clause-err g c =
    let p = err_from_is_err_and c.from_residual.result c.from_residual.ensures.1 in
    rw p.1 (fails_sooner _ _ _ (c.args.first.now) (c.args.second.now) c.in_err-put.ensures.err)

pub returns-clause-err : goal.returns-clause-err
returns-clause-err g c =
    on_err_weaker c.put-2.result
    (λ f. says_then_fails _ _ _ _ _ (c.args.first.now) (c.args.second.now) c.in_ok-put.ensures.ok f)
    c.put-2.ensures.err
