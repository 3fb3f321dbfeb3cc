use Rattle.pd_hearing.specs.Hearing.{heard_at, resumed_at}
use Rattle.pd_hearing.specs.Deeds.{done}
use Rattle.pd_walk.specs.Outcome.{outcome}
use Rattle.pd_keeping_law.specs.Changes.{anything}
use Rattle.pd_keeping_law.proofs.ChangeLemmas.{any_said}
use Rattle.pd_keeping_law.proofs.RunLemmas.{kind_becomes, again_becomes, at_becomes, resumed_at-becomes, done_becomes, outcome_becomes, left_becomes}
use Rattle.pd_bounds_law.proofs.RunLemmas.{bound_kept, all_bounded}
use Rattle.pd_bounds_law.proofs.laws.messages_keep_bounds.Goals as goal

pub returns-clause-hearing : goal.returns-clause-hearing
returns-clause-hearing c = λ names k s inlet selector atoms now table h.
    record { bounds = bound_kept (kind_becomes anything names s inlet selector atoms now table (any_said names selector atoms) k) h.bounds }

pub returns-clause-again : goal.returns-clause-again
returns-clause-again c = λ k s h. record { bounds = bound_kept (again_becomes anything k s) h.bounds }

pub returns-clause-boxes : goal.returns-clause-boxes
returns-clause-boxes c = λ net now names states node inlet selector atoms a.
    record { each = all_bounded states (heard_at net now states names node inlet selector atoms).states (at_becomes anything net names states node now inlet selector atoms (any_said names selector atoms)) a.each }

pub returns-clause-boxes_again : goal.returns-clause-boxes_again
returns-clause-boxes_again c = λ net names states node a. record { each = all_bounded states (resumed_at net states names node).states (resumed_at-becomes anything net names states node) a.each }

pub returns-clause-deed : goal.returns-clause-deed
returns-clause-deed c = λ net now node d kept a. record { each = all_bounded kept.states (done net now node d kept).states (done_becomes anything net now node d kept) a.each }

pub returns-clause-delivery : goal.returns-clause-delivery
returns-clause-delivery c = λ net now w s a. record { each = all_bounded w.kept.states (outcome net now w s).kept.states (outcome_becomes net now w s) a.each }

pub returns-clause-left : goal.returns-clause-left
returns-clause-left c = λ net now before after budget rest s old new a left. record { each = all_bounded before.states after.states (left_becomes net now before after budget rest s old new left) a.each }
