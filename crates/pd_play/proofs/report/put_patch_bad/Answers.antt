use Rattle.std.proofs.Common.{codes, decimal}
use Rattle.std.proofs.lemmas.Result.{err_from_is_err_and, on_ok_weaker, on_err_weaker}
use Rattle.pd_play.specs.Ending.{bad_text, cause_text}
use Rattle.pd_play.proofs.ReportLemmas.{bad_said, bad_fails_first, bad_fails_second, bad_fails_third}
use Rattle.pd_play.proofs.report.put_patch_bad.Goals as goal

pub returns-in_err-put_pair-clause-err : goal.returns-in_err-put_pair-clause-err
unfolding bad_text
returns-in_err-put_pair-clause-err g c =
    let p = err_from_is_err_and c.from_residual.result c.from_residual.ensures.1 in
    rw p.1 (bad_fails_first _ _ _ (codes "error: ") c.args.name.now (codes ": record ") (decimal c.args.number) (codes ": ") (cause_text c.args.cause) (codes "\n") c.in_err-put_pair.ensures.err)

pub returns-in_err-put_counted-clause-err : goal.returns-in_err-put_counted-clause-err
unfolding bad_text
returns-in_err-put_counted-clause-err g c =
    let p = err_from_is_err_and c.from_residual-in_err-put_counted.result c.from_residual-in_err-put_counted.ensures.1 in
    rw p.1 (bad_fails_second _ _ _ _ _ (codes "error: ") c.args.name.now (codes ": record ") (decimal c.args.number) (codes ": ") (cause_text c.args.cause) (codes "\n") c.in_ok-put_pair.ensures.ok c.in_err-put_counted.ensures.err)

pub returns-clause-ok : goal.returns-clause-ok
unfolding bad_text
returns-clause-ok g c =
    on_ok_weaker c.put_pair-2.result
    (λ f. bad_said _ _ _ _ _ _ _ _ (codes "error: ") c.args.name.now (codes ": record ") (decimal c.args.number) (codes ": ") (cause_text c.args.cause) (codes "\n") c.in_ok-put_pair.ensures.ok c.in_ok-put_counted.ensures.ok (rw c.cause_words.ensures at f)) c.put_pair-2.ensures.ok

pub returns-clause-err : goal.returns-clause-err
unfolding bad_text
returns-clause-err g c =
    on_err_weaker c.put_pair-2.result
    (λ f. bad_fails_third _ _ _ _ _ _ _ (codes "error: ") c.args.name.now (codes ": record ") (decimal c.args.number) (codes ": ") (cause_text c.args.cause) (codes "\n") c.in_ok-put_pair.ensures.ok c.in_ok-put_counted.ensures.ok (rw c.cause_words.ensures at f)) c.put_pair-2.ensures.err
