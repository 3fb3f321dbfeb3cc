use Rattle.pd_limits_law.proofs.FewLemmas.{first_few, edits_few, room_few, alike_few}
use Rattle.pd_limits_law.proofs.laws.few_wires_hold_on.Goals as goal

pub returns-clause-first : goal.returns-clause-first
returns-clause-first c = first_few

pub returns-clause-edited : goal.returns-clause-edited
returns-clause-edited c = edits_few

pub returns-clause-room : goal.returns-clause-room
returns-clause-room c = room_few

pub returns-clause-alike : goal.returns-clause-alike
returns-clause-alike c = alike_few
