use Rattle.pd_misfits.proofs.FitLemmas.{fit_taken}
use Rattle.pd_misfits.proofs.laws.wires_that_fit_are_taken.Goals as goal

pub returns : goal.returns
returns c = fit_taken
