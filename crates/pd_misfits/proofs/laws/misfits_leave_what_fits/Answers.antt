use Rattle.pd_misfits.proofs.FitLemmas.{keeps_fit}
use Rattle.pd_misfits.proofs.laws.misfits_leave_what_fits.Goals as goal

pub returns : goal.returns
returns c = keeps_fit
