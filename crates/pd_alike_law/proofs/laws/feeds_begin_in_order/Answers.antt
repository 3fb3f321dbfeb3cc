use Rattle.pd_alike_law.proofs.FirstLemmas.{first_order}
use Rattle.pd_alike_law.proofs.laws.feeds_begin_in_order.Goals as goal

pub returns-clause-meet : goal.returns-clause-meet
returns-clause-meet c = λ p names file rate f. f.wires.meet

pub returns-clause-order : goal.returns-clause-order
returns-clause-order c = first_order
