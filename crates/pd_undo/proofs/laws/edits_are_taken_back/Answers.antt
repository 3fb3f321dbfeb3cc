use Rattle.pd_undo.proofs.TurnLemmas.{edit_back, edit_back_plain, edit_back_there, edit_again}
use Rattle.pd_undo.proofs.laws.edits_are_taken_back.Goals as goal

pub returns-clause-plain : goal.returns-clause-plain
returns-clause-plain c = edit_back_plain

pub returns-clause-rewired : goal.returns-clause-rewired
returns-clause-rewired c = edit_back

pub returns-clause-there : goal.returns-clause-there
returns-clause-there c = edit_back_there

pub returns-clause-again : goal.returns-clause-again
returns-clause-again c = edit_again
