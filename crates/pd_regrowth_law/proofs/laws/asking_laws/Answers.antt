use Rattle.pd_regrowth_law.proofs.ChangeLemmas.{asks_in_order, asks_join}
use Rattle.pd_regrowth_law.proofs.laws.asking_laws.Goals as goal

pub returns-clause-walk : goal.returns-clause-walk
returns-clause-walk c = asks_in_order

pub returns-clause-join : goal.returns-clause-join
returns-clause-join c = asks_join
