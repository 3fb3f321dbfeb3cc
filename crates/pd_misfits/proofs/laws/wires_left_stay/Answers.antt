use Rattle.pd_misfits.proofs.FitLemmas.{left_stay}
use Rattle.pd_misfits.proofs.laws.wires_left_stay.Goals as goal

pub returns : goal.returns
returns c = left_stay
