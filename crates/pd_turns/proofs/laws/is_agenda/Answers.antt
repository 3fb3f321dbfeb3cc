use Rattle.pd_turns.proofs.Turns.{finished-agenda}
use Rattle.pd_turns.proofs.laws.is_agenda.Goals as goal

pub returns : goal.returns
returns g c = λ r w tasks. finished-agenda r w tasks
