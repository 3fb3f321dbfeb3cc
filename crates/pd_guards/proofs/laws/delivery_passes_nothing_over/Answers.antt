use Rattle.std.proofs.Common.{[], sym, subst}
use Rattle.pd_hearing.specs.Worlds.{Kept}
use Rattle.pd_walk.specs.Outcome.{world}
use Rattle.pd_guards.specs.Worlds.{IsInOrder}
use Rattle.pd_guards.proofs.WalkLemmas.{outcome_in, outcome_same}
use Rattle.pd_guards.proofs.laws.delivery_passes_nothing_over.Goals as goal

pub returns-clause-freely : goal.returns-clause-freely
returns-clause-freely c = λ net now w s near h k. outcome_same net now w s near h k

pub returns-clause-order : goal.returns-clause-order
returns-clause-order c = λ net now w s h k. outcome_in net now w s h k

pub returns-clause-left : goal.returns-clause-left
returns-clause-left c = λ net now before after budget rest s old new h k left.
    subst (λ (x : Kept). IsInOrder net now x) (sym left.kept_is) (outcome_in net now (world before budget []) s h k)
