use Rattle.std.proofs.Common.{[]}
use Rattle.std.proofs.lemmas.Result.{err_from_is_err_and}
use Rattle.pd_stage.proofs.LeadLemmas.{written_leads, written_breaks}
use Rattle.pd_engine.specs.Commands.{shown}
use Rattle.pd_engine.specs.Stages.{stage_at}
use Rattle.pd_engine.proofs.engine.Engine.show_at.Goals as goal

pub returns-in_err-show-clause-err : goal.returns-in_err-show-clause-err
returns-in_err-show-clause-err g c =
    let s = stage_at c.args.self.now in
    let p = err_from_is_err_and c.from_residual.result c.from_residual.ensures.1 in
    rw p.1 (λ looks samples held faults. written_breaks s (shown (s []).net c.args.path.now) _ _ samples looks held faults c.in_err-show.ensures.err)

pub returns-clause-ok : goal.returns-clause-ok
returns-clause-ok g c = λ looks samples held faults.
    let s = stage_at c.args.self.now in
    written_leads s (shown (s []).net c.args.path.now) _ _ samples looks held faults c.in_ok-show.ensures.ok
