use Rattle.std.proofs.Common.{◌*◌, ℕ, refl}
use Rattle.pd_clock.specs.Rates.{samples}
use Rattle.pd_stage.specs.Times.{advanced}
use Rattle.pd_engine.specs.Stages.{stage_at}
use Rattle.pd_play.specs.Runs.{reached, done}
use Rattle.pd_play.proofs.RunLemmas.{part_played, part_cut}
use Rattle.pd_play.proofs.session.Session.end_at.Goals as goal

pub returns-in-Ok-clause-plays : goal.returns-in-Ok-clause-plays
unfolding reached
returns-in-Ok-clause-plays g c =
    let time : ℕ = c.args.self.now.time * samples c.args.self.now.rate in
    part_played _ (advanced time) done (stage_at c.args.self.now.engine) (stage_at c.reach.new.self.engine) _ _ _ _ _ c.in-Ok.ensures.passed (λ m rest. refl) c.end.ensures.plays

pub returns-in-Err-clause-plays : goal.returns-in-Err-clause-plays
unfolding reached
returns-in-Err-clause-plays g c =
    let time : ℕ = c.args.self.now.time * samples c.args.self.now.rate in
    let s = stage_at c.args.self.now.engine in
    part_cut _ (advanced time) (λ m rest. done (advanced time (s m)).stage) s _ _ _ _ c.in-Err.ensures.part c.fault_of.ensures (λ m rest. refl)
