use Rattle.pd_play.proofs.RunLemmas.{fed_steps, waits_ends}
use Rattle.pd_play.proofs.session.Session.step.Goals as goal

pub returns-in-Ok-clause-steps : goal.returns-in-Ok-clause-steps
returns-in-Ok-clause-steps g c =
    fed_steps _ _ _ _ _ _ _ _ _ _ _ _ _ c.in-Ok.ensures.fed c.run_fed.ensures.feed c.run_fed.ensures.record c.run_fed.ensures.leads

pub returns-in-Err-clause-steps : goal.returns-in-Err-clause-steps
returns-in-Err-clause-steps g c = waits_ends _ _ _ _ _ _ _ _ _ c.in-Err.ensures.waits c.in-Err.ensures.cause
