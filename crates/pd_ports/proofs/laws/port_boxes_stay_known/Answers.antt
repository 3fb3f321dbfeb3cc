use Rattle.pd_ports.proofs.KnownLemmas.{opened_known, closed_known, followed_known}
use Rattle.pd_ports.proofs.laws.port_boxes_stay_known.Goals as goal

pub returns-clause-opened : goal.returns-clause-opened
returns-clause-opened c = λ g w w' key is_made own has knows bare apart known. opened_known g w w' key is_made own has knows bare apart known

pub returns-clause-closed : goal.returns-clause-closed
returns-clause-closed c = λ w w' key has gone known. closed_known w w' key has gone known

pub returns-clause-followed : goal.returns-clause-followed
returns-clause-followed c = λ w w' key side jacks follows knows free known. followed_known w w' key side jacks follows knows free known
