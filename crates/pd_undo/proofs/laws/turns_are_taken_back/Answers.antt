use Rattle.std.proofs.Common.{[], ◌∷◌}
use Rattle.pd_undo.specs.Acts.{Wires}
use Rattle.pd_undo.proofs.ActLemmas.{given_behind}
use Rattle.pd_undo.proofs.TurnLemmas.{turns_undone, turns_there, turns_form, turns_again}
use Rattle.pd_undo.proofs.laws.turns_are_taken_back.Goals as goal

pub returns-clause-back : goal.returns-clause-back
returns-clause-back c = turns_undone

pub returns-clause-there : goal.returns-clause-there
returns-clause-there c = turns_there

pub returns-clause-form : goal.returns-clause-form
returns-clause-form c = turns_form

pub returns-clause-gives : goal.returns-clause-gives
returns-clause-gives c = λ box ws. given_behind box (Wires ws ∷ []) tt

pub returns-clause-again : goal.returns-clause-again
returns-clause-again c = turns_again
