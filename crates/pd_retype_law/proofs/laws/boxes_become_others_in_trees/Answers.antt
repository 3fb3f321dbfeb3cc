use Rattle.pd_retype_law.proofs.CaseLemmas.{both_again, both_fit, both_hold, both_owners, both_run, both_wires, both_zeros}
use Rattle.pd_retype_law.proofs.GrewLemmas.{goes_on}
use Rattle.pd_retype_law.proofs.laws.boxes_become_others_in_trees.Goals as goal

pub returns-clause-names : goal.returns-clause-names
returns-clause-names c = goes_on

pub returns-clause-runs : goal.returns-clause-runs
returns-clause-runs c = λ old new n name path number text now k after steps steps' b t x can r a. both_run old new n name path number text now k after steps steps' b x can t r a

pub returns-clause-again : goal.returns-clause-again
returns-clause-again c = λ old new n name path number text now k after steps steps' b t x can r a. both_again old new n name path number text now k after steps steps' b x can t r a

pub returns-clause-zeros : goal.returns-clause-zeros
returns-clause-zeros c = λ old new n name path number text now k after steps steps' b t x can r. both_zeros old new n name path number text now k after steps steps' b x can t r

pub returns-clause-holds : goal.returns-clause-holds
returns-clause-holds c = λ old new n name path number text now k after steps steps' b t x can r h. both_hold old new n name path number text now k after steps steps' b x can t r h

pub returns-clause-fit : goal.returns-clause-fit
returns-clause-fit c = λ old new n name path number text now k after steps steps' b x can f. both_fit old new n name path number text now k after steps steps' b x f

pub returns-clause-wires : goal.returns-clause-wires
returns-clause-wires c = both_wires

pub returns-clause-owners : goal.returns-clause-owners
returns-clause-owners c = λ old new n name path number text now k after steps steps' b t x can r a h. both_owners old new n name path number text now k after steps steps' b x t r a h
