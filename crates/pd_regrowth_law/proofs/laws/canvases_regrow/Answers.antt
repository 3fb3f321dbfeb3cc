use Rattle.pd_regrowth_law.proofs.OwnLemmas.{own_joined, own_parted, each_own, own_each, own_replaced}
use Rattle.pd_regrowth_law.proofs.laws.canvases_regrow.Goals as goal

pub returns-clause-whole : goal.returns-clause-whole
returns-clause-whole c = each_own

pub returns-clause-each : goal.returns-clause-each
returns-clause-each c = own_each

pub returns-clause-parts : goal.returns-clause-parts
returns-clause-parts c = own_joined

pub returns-clause-each_part : goal.returns-clause-each_part
returns-clause-each_part c = own_parted

pub returns-clause-replaced : goal.returns-clause-replaced
returns-clause-replaced c = own_replaced
