use Rattle.pd_links.proofs.LinkLemmas.{after_add, wire_there}
use Rattle.pd_links.proofs.laws.mend_after_add.Goals as goal

pub returns-clause-order : goal.returns-clause-order
returns-clause-order c = after_add

pub returns-clause-wire : goal.returns-clause-wire
returns-clause-wire c = wire_there
