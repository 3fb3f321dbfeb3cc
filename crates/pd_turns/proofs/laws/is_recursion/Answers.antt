use Rattle.pd_turns.proofs.Turns.{finished-step}
use Rattle.pd_turns.proofs.laws.is_recursion.Goals as goal

pub returns : goal.returns
returns g c = λ r w task. finished-step r w task
