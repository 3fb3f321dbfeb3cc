use Rattle.std.proofs.Common.{refl}
use Rattle.pd_play.specs.Playing.{point_at}
use Rattle.pd_play.proofs.RunLemmas.{end_played, rest_played}
use Rattle.pd_play.proofs.session.Session.run_fed.Goals as goal

pub returns-in-End-clause-leads : goal.returns-in-End-clause-leads
returns-in-End-clause-leads g c = end_played _ _ (point_at c.args.self.now) _ _ _ _ c.in-End.is c.end.ensures.plays

pub returns-in-TooLong-clause-leads : goal.returns-in-TooLong-clause-leads
returns-in-TooLong-clause-leads g c = rest_played _ _ (point_at c.args.self.now) _ c.args.self.now.number _ _ c.in-TooLong.is (λ m. refl) c.bad_rest.ensures
