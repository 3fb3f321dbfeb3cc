use Rattle.std.proofs.Common.{◌≡◌, true}
use Rattle.pd_take_law.proofs.DeletedLemmas.{box_gone, owners_stay, wires_fewer}
use Rattle.pd_take_law.proofs.EitherLemmas.{wires_fit, wires_hold}
use Rattle.pd_take_law.proofs.SavedLemmas.{still_again, still_runs, zeros_left}
use Rattle.pd_take_law.proofs.laws.boxes_go_from_trees.Goals as goal

pub returns-clause-runs : goal.returns-clause-runs
returns-clause-runs c = λ old new n table path number steps steps' b t D C R. still_runs old new path b.canvas b.key number (box_gone old new n table path number steps steps' b D C) t R

pub returns-clause-again : goal.returns-clause-again
returns-clause-again c = λ old new n table path number steps steps' b t D C R lib file names S.
    still_again old new path b.canvas b.key number (box_gone old new n table path number steps steps' b D C) t R lib file names S

pub returns-clause-zeros : goal.returns-clause-zeros
returns-clause-zeros c = λ old new n table path number steps steps' b t D C R test A.
    zeros_left old new path b.canvas b.key number (box_gone old new n table path number steps steps' b D C) t R (λ z. test z ≡ true) A

pub returns-clause-holds : goal.returns-clause-holds
returns-clause-holds c = λ old new n table path number steps steps' b t D C R h. wires_hold old new n table path number steps steps' b C D h.meet t R h

pub returns-clause-fit : goal.returns-clause-fit
returns-clause-fit c = λ old new n table path number steps steps' b D C meet f. wires_fit old new n table path number steps steps' b C D f

pub returns-clause-wires : goal.returns-clause-wires
returns-clause-wires c = wires_fewer

pub returns-clause-owners : goal.returns-clause-owners
returns-clause-owners c = owners_stay
