use Rattle.pd_play.proofs.session.Session.run_script.Goals as goal

pub returns-in-End-clause-leads : goal.returns-in-End-clause-leads
returns-in-End-clause-leads g c = rw c.in-End.is c.end_at.ensures.plays
