use Rattle.pd_misfits.proofs.TurnLemmas.{fit_stays, stays_fit, stays_same}
use Rattle.pd_misfits.proofs.laws.wires_stay_unless_they_turn.Goals as goal

pub returns-clause-stay : goal.returns-clause-stay
returns-clause-stay c = fit_stays

pub returns-clause-fit : goal.returns-clause-fit
returns-clause-fit c = stays_fit

pub returns-clause-same : goal.returns-clause-same
returns-clause-same c = stays_same
