use Rattle.pd_misfits.proofs.CanvasLemmas.{canvas_left, canvas_less, others_left}
use Rattle.pd_misfits.proofs.laws.canvases_lose_misfits.Goals as goal

pub returns-clause-here : goal.returns-clause-here
returns-clause-here c = canvas_left

pub returns-clause-less : goal.returns-clause-less
returns-clause-less c = canvas_less

pub returns-clause-others : goal.returns-clause-others
returns-clause-others c = others_left
