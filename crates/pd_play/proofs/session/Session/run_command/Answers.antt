use Rattle.std.proofs.Common.{◌*◌, ℕ, List, refl, ap}
use Rattle.pd_clock.specs.Rates.{samples}
use Rattle.pd_stage.specs.Choices.{Choice}
use Rattle.pd_stage.specs.Stages.{Stage, Passage, followed_by}
use Rattle.pd_stage.specs.Times.{advanced}
use Rattle.pd_engine.specs.Stages.{stage_at}
use Rattle.pd_engine.specs.Commands.{commanded}
use Rattle.pd_stage.proofs.LeadLemmas.{comes_then, stops_first, stops_then}
use Rattle.pd_play.specs.Runs.{Point, reached, at_stage}
use Rattle.pd_play.specs.Playing.{point_at}
use Rattle.pd_play.proofs.RunLemmas.{part_cut, part_goes_on, point_is}
use Rattle.pd_play.proofs.session.Session.run_command.Goals as goal

pub returns-in-Err-clause-leads : goal.returns-in-Err-clause-leads
unfolding reached
returns-in-Err-clause-leads g c =
    let time : ℕ = c.args.self.now.time * samples c.args.self.now.rate in
    let s = stage_at c.args.self.now.engine in
    let p : List Choice → Point = point_at c.args.self.now in
    let part : Stage → Passage = λ x. followed_by (advanced time x) (commanded c.args.command) in
    part_cut _ part (λ m rest. rest (at_stage (p m) (part (s m)).stage)) s _ _ _ _ (stops_first (advanced time) (commanded c.args.command) s _ _ c.in-Err.ensures.part) c.fault_of.ensures
    (λ m rest. refl)

pub returns-in-Err-command-clause-leads : goal.returns-in-Err-command-clause-leads
unfolding reached
returns-in-Err-command-clause-leads g c =
    let time : ℕ = c.args.self.now.time * samples c.args.self.now.rate in
    let s = stage_at c.args.self.now.engine in
    let p : List Choice → Point = point_at c.args.self.now in
    let part : Stage → Passage = λ x. followed_by (advanced time x) (commanded c.args.command) in
    part_cut _ part (λ m rest. rest (at_stage (p m) (part (s m)).stage)) s _ _ _ _
    (stops_then (advanced time) (commanded c.args.command) s (stage_at c.reach.new.self.engine) _ _ _ c.in_default.ensures.passed
    (c.in-Err-command.ensures.part (g.P.Sink.taken c.reach.new.pcm)))
    c.fault_of-in-Err-command.ensures (λ m rest. refl)

pub returns-clause-leads : goal.returns-clause-leads
unfolding reached
returns-clause-leads g c =
    let time : ℕ = c.args.self.now.time * samples c.args.self.now.rate in
    let s = stage_at c.args.self.now.engine in
    let p : List Choice → Point = point_at c.args.self.now in
    let part : Stage → Passage = λ x. followed_by (advanced time x) (commanded c.args.command) in
    let stays = c.reach.ensures.stays in
    part_goes_on _ part s (stage_at c.command.new.self) p _ _ _
    (comes_then (advanced time) (commanded c.args.command) s (stage_at c.reach.new.self.engine) (stage_at c.command.new.self) _ _ _ c.in_default.ensures.passed
    (c.in_default-command.ensures.said (g.P.Sink.taken c.reach.new.pcm)).comes)
    (λ m rest. refl)
    (λ m n. point_is (p n) _ (stage_at c.command.new.self m) refl (ap samples stays.rate) stays.number stays.time)
