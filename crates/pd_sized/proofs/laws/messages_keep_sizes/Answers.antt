use Rattle.pd_hearing.specs.Hearing.{heard_at, resumed_at}
use Rattle.pd_hearing.specs.Deeds.{done}
use Rattle.pd_walk.specs.Outcome.{outcome}
use Rattle.pd_keeping_law.specs.Changes.{anything}
use Rattle.pd_keeping_law.proofs.ChangeLemmas.{any_said}
use Rattle.pd_keeping_law.proofs.RunLemmas.{kind_becomes, again_becomes, at_becomes, resumed_at-becomes, done_becomes, outcome_becomes, left_becomes}
use Rattle.pd_sized.proofs.RunLemmas.{size_kept, sizes_kept}
use Rattle.pd_sized.proofs.laws.messages_keep_sizes.Goals as goal

pub returns-clause-hearing : goal.returns-clause-hearing
returns-clause-hearing c = λ names k s inlet selector atoms now table h. size_kept (kind_becomes anything names s inlet selector atoms now table (any_said names selector atoms) k) h

pub returns-clause-again : goal.returns-clause-again
returns-clause-again c = λ k s h. size_kept (again_becomes anything k s) h

pub returns-clause-boxes : goal.returns-clause-boxes
returns-clause-boxes c = λ net now names states node inlet selector atoms a.
    sizes_kept states (heard_at net now states names node inlet selector atoms).states (at_becomes anything net names states node now inlet selector atoms (any_said names selector atoms)) a

pub returns-clause-boxes_again : goal.returns-clause-boxes_again
returns-clause-boxes_again c = λ net names states node a. sizes_kept states (resumed_at net states names node).states (resumed_at-becomes anything net names states node) a

pub returns-clause-deed : goal.returns-clause-deed
returns-clause-deed c = λ net now node d kept a. sizes_kept kept.states (done net now node d kept).states (done_becomes anything net now node d kept) a

pub returns-clause-delivery : goal.returns-clause-delivery
returns-clause-delivery c = λ net now w s a. sizes_kept w.kept.states (outcome net now w s).kept.states (outcome_becomes net now w s) a

pub returns-clause-left : goal.returns-clause-left
returns-clause-left c = λ net now before after budget rest s old new a left. sizes_kept before.states after.states (left_becomes net now before after budget rest s old new left) a
