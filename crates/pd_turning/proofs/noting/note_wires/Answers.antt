use Rattle.pd_misfits.proofs.WalkLemmas.{fan_once}
use Rattle.pd_turning.proofs.noting.note_wires.Goals as goal

pub returns-clause-once : goal.returns-clause-once
returns-clause-once c = λ node outlet. fan_once c.args.web.now node outlet (c.laws.ensures.once node outlet)
