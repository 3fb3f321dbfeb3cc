use Rattle.pd_wiring.proofs.GraphLemmas.{canvas_lawful}
use Rattle.pd_placing.proofs.laws.canvases_are_lawful.Goals as goal

pub returns : goal.returns
returns c = λ g w l k W. canvas_lawful g w l W k
