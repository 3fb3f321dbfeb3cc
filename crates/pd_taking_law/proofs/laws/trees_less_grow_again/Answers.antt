use Rattle.pd_taking_law.proofs.AgainLemmas.{less_stands, deleted_stands}
use Rattle.pd_taking_law.proofs.laws.trees_less_grow_again.Goals as goal

pub returns-clause-less : goal.returns-clause-less
returns-clause-less c = less_stands

pub returns-clause-deleted : goal.returns-clause-deleted
returns-clause-deleted c = deleted_stands
