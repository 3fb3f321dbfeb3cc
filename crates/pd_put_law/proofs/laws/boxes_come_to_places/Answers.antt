use Rattle.pd_put_law.proofs.ComeLemmas.{goes_on, box_runs, box_again}
use Rattle.pd_put_law.proofs.LastLemmas.{adds_at}
use Rattle.pd_put_law.proofs.OwnerLemmas.{box_owners}
use Rattle.pd_put_law.proofs.PutLemmas.{box_holds, box_fits, box_wires}
use Rattle.pd_put_law.proofs.laws.boxes_come_to_places.Goals as goal

pub returns-clause-last : goal.returns-clause-last
returns-clause-last c = adds_at

pub returns-clause-names : goal.returns-clause-names
returns-clause-names c = goes_on

pub returns-clause-runs : goal.returns-clause-runs
returns-clause-runs c = λ old new number n name path now e k after b t x can r a. box_runs old new number n name path now e k after b x can t r a

pub returns-clause-again : goal.returns-clause-again
returns-clause-again c = λ old new number n name path now e k after b t x can r a. box_again old new number n name path now e k after b x can t r a

pub returns-clause-holds : goal.returns-clause-holds
returns-clause-holds c = λ old new number n name path now e k after b t x can r h. box_holds old new number n name path now e k after b x can t r h

pub returns-clause-fit : goal.returns-clause-fit
returns-clause-fit c = box_fits

pub returns-clause-wires : goal.returns-clause-wires
returns-clause-wires c = box_wires

pub returns-clause-owners : goal.returns-clause-owners
returns-clause-owners c = box_owners
