use Rattle.pd_turning.proofs.LawLemmas.{canvas_has}
use Rattle.pd_turning.proofs.laws.canvases_have_their_wires.Goals as goal

pub returns : goal.returns
returns c = λ w v ms numbers keys R. canvas_has w v ms numbers R keys
