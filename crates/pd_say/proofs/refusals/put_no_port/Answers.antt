use Rattle.std.proofs.Common.{◌++◌, codes, decimal, subst}
use Rattle.std.proofs.lemmas.Result.{err_from_is_err_and, on_err_weaker}
use Rattle.pd_say.specs.Gathering.{Says, Fails}
use Rattle.pd_say.specs.Refusals.{side_text}
use Rattle.pd_say.proofs.GatheringLemmas.{says_then_fails, fails_sooner}
use Rattle.pd_say.proofs.refusals.put_no_port.Goals as goal

pub returns-in_err-put_numbered-clause-err : goal.returns-in_err-put_numbered-clause-err
returns-in_err-put_numbered-clause-err g c =
    let p = err_from_is_err_and c.from_residual.result c.from_residual.ensures.1 in
    rw p.1
    (fails_sooner _ _ _ (side_text c.args.outlet ++ decimal c.args.port) (codes " at box " ++ decimal c.args.number)
    (subst (λ w. Fails (g.L.Sink.taken c.args.sink.now) c.args.held.now.items (g.L.Sink.taken c.put_numbered.new.sink) (w ++ decimal c.args.port))
    c.side_word.ensures c.in_err-put_numbered.ensures.err))

pub returns-clause-err : goal.returns-clause-err
returns-clause-err g c =
    on_err_weaker c.put_numbered-2.result
    (λ f. says_then_fails _ _ _ _ _ (side_text c.args.outlet ++ decimal c.args.port) (codes " at box " ++ decimal c.args.number)
    (subst (λ w. Says (g.L.Sink.taken c.args.sink.now) c.args.held.now.items (g.L.Sink.taken c.put_numbered.new.sink) c.put_numbered.new.held.items (w ++ decimal c.args.port))
    c.side_word.ensures c.in_ok-put_numbered.ensures.ok) f)
    c.put_numbered-2.ensures.err
