use Rattle.std.proofs.Common.{refl}
use Rattle.pd_walk.proofs.WayLemmas.{begins}
use Rattle.pd_walk.proofs.walker.walk_name.Goals as goal

pub returns-clause-ok : goal.returns-clause-ok
returns-clause-ok g c = λ before said is_said.
    c.walk.ensures.ok before _ (begins _ _ _ _ before _ _ _ c.push_name.new.stack _ said is_said c.push_name.ensures.left refl)

pub returns-clause-err : goal.returns-clause-err
returns-clause-err g c = λ before said is_said.
    c.walk.ensures.err before _ (begins _ _ _ _ before _ _ _ c.push_name.new.stack _ said is_said c.push_name.ensures.left refl)
