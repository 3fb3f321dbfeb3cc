use Rattle.pd_saved_law.proofs.FitLemmas.{fresh_fit, edits_fit, room_fits}
use Rattle.pd_saved_law.proofs.laws.wires_go_on_fitting.Goals as goal

pub returns-clause-fresh : goal.returns-clause-fresh
returns-clause-fresh c = λ p names file rate f. fresh_fit p f.wires f.own f.numbers

pub returns-clause-edited : goal.returns-clause-edited
returns-clause-edited c = edits_fit

pub returns-clause-room : goal.returns-clause-room
returns-clause-room c = room_fits
