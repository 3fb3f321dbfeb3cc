use Rattle.pd_alike_law.proofs.webs.feeds_stand_once.Goals as goal

pub returns : goal.returns
returns c = record { lines = c.laws.ensures.feeds; once = c.laws.ensures.once_fed }
