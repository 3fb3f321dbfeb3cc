use Rattle.std.proofs.Common.{[]}
use Rattle.std.proofs.lemmas.Result.{err_from_is_err_and}
use Rattle.pd_hearing.proofs.ResultLemmas.{on_ok_map, on_err_map}
use Rattle.pd_walk.proofs.WayLemmas.{left-done, part-done, said-none}
use Rattle.pd_walk.proofs.walker.Walker.deliver.Goals as goal

pub returns-clause-ok : goal.returns-clause-ok
returns-clause-ok g c =
    on_ok_map c.flush.result
    (left-done _ _ _ _ _ _ _ (c.in_ok-begin.ensures.ok _ [] (said-none _ _ c.clear.ensures)))
    c.flush.ensures.ok

pub returns-clause-err : goal.returns-clause-err
returns-clause-err g c =
    on_err_map c.flush.result
    (part-done _ _ _ _ _ _ _ (c.in_ok-begin.ensures.ok _ [] (said-none _ _ c.clear.ensures)))
    c.flush.ensures.err

pub returns-in_err-begin-clause-err : goal.returns-in_err-begin-clause-err
returns-in_err-begin-clause-err g c =
    let p = err_from_is_err_and c.from_residual.result c.from_residual.ensures.1 in
    rw p.1 (c.in_err-begin.ensures.err _ [] (said-none _ _ c.clear.ensures))
