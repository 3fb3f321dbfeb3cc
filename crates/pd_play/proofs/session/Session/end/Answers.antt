use Rattle.std.proofs.Common.{refl}
use Rattle.pd_stage.specs.Times.{finished}
use Rattle.pd_engine.specs.Stages.{stage_at}
use Rattle.pd_play.specs.Runs.{done}
use Rattle.pd_play.proofs.RunLemmas.{last_played, last_cut}
use Rattle.pd_play.proofs.session.Session.end.Goals as goal

pub returns-in-Ok-clause-plays : goal.returns-in-Ok-clause-plays
unfolding done
returns-in-Ok-clause-plays g c = last_played finished (stage_at c.args.self.now.engine) (stage_at c.finish.new.self) _ _ _ _ c.in-Ok.ensures.passed (λ m. refl)

pub returns-in-Err-clause-plays : goal.returns-in-Err-clause-plays
unfolding done
returns-in-Err-clause-plays g c = last_cut _ finished (stage_at c.args.self.now.engine) _ _ _ _ c.in-Err.ensures.part c.fault_of.ensures (λ m rest. refl)
