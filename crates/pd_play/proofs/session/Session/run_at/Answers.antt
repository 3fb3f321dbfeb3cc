use Rattle.std.proofs.Common.{◌<◌, ◌+◌, ℕ, List, arith}
use Rattle.pd_stage.specs.Choices.{Choice}
use Rattle.pd_play.specs.Runs.{Point, most_time, millionths}
use Rattle.pd_play.specs.Playing.{point_at}
use Rattle.pd_play.proofs.RunLemmas.{nothing_played}
use Rattle.pd_play.proofs.LateLemmas.{late_bad}
use Rattle.pd_play.proofs.session.Session.run_at.Goals as goal

pub returns-then-time-gt-MOST_TIME-clause-leads : goal.returns-then-time-gt-MOST_TIME-clause-leads
returns-then-time-gt-MOST_TIME-clause-leads g c =
    let p : List Choice → Point = point_at c.args.self.now in
    let time : ℕ = c.args.self.now.time + millionths c.args.milliseconds in
    let late : most_time < time = omega (arith, c.if-time-gt-MOST_TIME.true, c.saturating_add-time.ensures, c.millionths.ensures) in
    nothing_played _ p _ _ _ _ c.bad_record.ensures (λ m rest. late_bad time c.args.script (p m) rest late)
