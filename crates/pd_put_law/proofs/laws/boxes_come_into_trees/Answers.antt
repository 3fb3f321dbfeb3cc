use Rattle.pd_putting.specs.Adds.{next_number}
use Rattle.pd_put_law.proofs.ComeLemmas.{goes_on}
use Rattle.pd_put_law.proofs.LastLemmas.{adds_at, last_runs, last_again, last_holds}
use Rattle.pd_put_law.proofs.OwnerLemmas.{box_owners}
use Rattle.pd_put_law.proofs.PutLemmas.{box_fits, box_wires}
use Rattle.pd_put_law.proofs.laws.boxes_come_into_trees.Goals as goal

pub returns-clause-names : goal.returns-clause-names
returns-clause-names c = λ old new n name path now e k after b x. goes_on old new (next_number old x.added) n name path now e k after b (adds_at old new n name path now e k after b x)

pub returns-clause-runs : goal.returns-clause-runs
returns-clause-runs c = λ old new n name path now e k after b t x can r a. last_runs old new n name path now e k after b x can t r a

pub returns-clause-again : goal.returns-clause-again
returns-clause-again c = λ old new n name path now e k after b t x can r a. last_again old new n name path now e k after b x can t r a

pub returns-clause-holds : goal.returns-clause-holds
returns-clause-holds c = λ old new n name path now e k after b t x can r h. last_holds old new n name path now e k after b x can t r h

pub returns-clause-fit : goal.returns-clause-fit
returns-clause-fit c = λ old new n name path now e k after b x can f. box_fits old new (next_number old x.added) n name path now e k after b (adds_at old new n name path now e k after b x) can f

pub returns-clause-wires : goal.returns-clause-wires
returns-clause-wires c = λ old new n name path now e k after b x can. box_wires old new (next_number old x.added) n name path now e k after b (adds_at old new n name path now e k after b x) can

pub returns-clause-owners : goal.returns-clause-owners
returns-clause-owners c = λ old new n name path now e k after b t x r a h. box_owners old new (next_number old x.added) n name path now e k after b t (adds_at old new n name path now e k after b x) r a h
