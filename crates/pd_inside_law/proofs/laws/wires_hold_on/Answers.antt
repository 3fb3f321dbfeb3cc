use Rattle.pd_inside_law.proofs.FirstLemmas.{first_holds}
use Rattle.pd_inside_law.proofs.HoldLemmas.{edits_hold, room_holds, alike_hold}
use Rattle.pd_inside_law.proofs.laws.wires_hold_on.Goals as goal

pub returns-clause-first : goal.returns-clause-first
returns-clause-first c = first_holds

pub returns-clause-edited : goal.returns-clause-edited
returns-clause-edited c = edits_hold

pub returns-clause-room : goal.returns-clause-room
returns-clause-room c = room_holds

pub returns-clause-alike : goal.returns-clause-alike
returns-clause-alike c = alike_hold
