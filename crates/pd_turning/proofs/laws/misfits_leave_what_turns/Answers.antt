use Rattle.pd_misfits.proofs.ToldLemmas.{turning_still, turning_wires_stay}
use Rattle.pd_turning.proofs.laws.misfits_leave_what_turns.Goals as goal

pub returns-clause-same : goal.returns-clause-same
returns-clause-same c = turning_still

pub returns-clause-wires : goal.returns-clause-wires
returns-clause-wires c = turning_wires_stay
