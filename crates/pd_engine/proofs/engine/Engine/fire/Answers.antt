use Rattle.std.proofs.Common.{[], arith}
use Rattle.std.proofs.lemmas.Result.{on_ok_weaker, on_err_weaker}
use Rattle.pd_engine.specs.Stages.{stage_at}
use Rattle.pd_engine.proofs.ClockLemmas.{fires_so, fires_broken}
use Rattle.pd_engine.proofs.engine.Engine.fire.Goals as goal

pub returns-clause-ok : goal.returns-clause-ok
returns-clause-ok g c =
    on_ok_weaker c.run_event.result
    (λ e samples. fires_so (stage_at c.args.self.now []) c.args.time c.args.owner _ _ (stage_at c.run_event.new.self) _ _ c.later-self.ensures (omega arith) (e samples))
    c.run_event.ensures.ok

pub returns-clause-err : goal.returns-clause-err
returns-clause-err g c =
    on_err_weaker c.run_event.result
    (λ e samples. fires_broken (stage_at c.args.self.now []) c.args.time c.args.owner _ _ _ _ c.later-self.ensures (omega arith) (e samples))
    c.run_event.ensures.err
