use Rattle.pd_reload_law.proofs.webs.wires_stand_once.Goals as goal

pub returns : goal.returns
returns c = record { lines = c.laws.ensures.fans; once = c.laws.ensures.once }
