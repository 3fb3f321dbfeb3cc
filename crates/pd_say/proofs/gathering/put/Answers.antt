use Rattle.std.proofs.lemmas.Result.{err_from_is_err_and, on_ok_weaker, on_err_weaker}
use Rattle.pd_say.proofs.GatheringLemmas.{took_held, said_through, took_through}
use Rattle.pd_say.proofs.gathering.put.Goals as goal

pub returns-in_err-flush-clause-err : goal.returns-in_err-flush-clause-err
returns-in_err-flush-clause-err g c =
    let p = err_from_is_err_and c.from_residual.result c.from_residual.ensures.1 in
    rw p.1 (record { breaks_off = λ before said s. took_held before _ _ _ said _ s c.in_err-flush.ensures.err })

pub returns-then-piece-remaining_capacity-clause-ok : goal.returns-then-piece-remaining_capacity-clause-ok
returns-then-piece-remaining_capacity-clause-ok g c =
    on_ok_weaker c.write_whole.result
    (λ n. record { goes_on = λ before said s. said_through before _ _ _ _ _ said _ s c.in_ok-flush.ensures.ok c.in_ok-flush.ensures.empty n })
    c.write_whole.ensures.whole

pub returns-then-piece-remaining_capacity-clause-err : goal.returns-then-piece-remaining_capacity-clause-err
returns-then-piece-remaining_capacity-clause-err g c =
    on_err_weaker c.write_whole.result
    (λ t. record { breaks_off = λ before said s. took_through before _ _ _ _ said _ s c.in_ok-flush.ensures.ok t })
    c.write_whole.ensures.part
