use Rattle.pd_sized.proofs.AlikeRunLemmas.{kind_alike, again_alike, at_alike, resumed_at-alike, done_alike, outcome_alike, left_alike}
use Rattle.pd_sized.proofs.laws.messages_keep_objects.Goals as goal

pub returns-clause-hearing : goal.returns-clause-hearing
returns-clause-hearing c = λ names k s inlet selector atoms now table. kind_alike names s inlet selector atoms now table k

pub returns-clause-again : goal.returns-clause-again
returns-clause-again c = again_alike

pub returns-clause-boxes : goal.returns-clause-boxes
returns-clause-boxes c = λ net now names states node inlet selector atoms. at_alike net names states node now inlet selector atoms

pub returns-clause-boxes_again : goal.returns-clause-boxes_again
returns-clause-boxes_again c = λ net names states node. resumed_at-alike net names states node

pub returns-clause-deed : goal.returns-clause-deed
returns-clause-deed c = done_alike

pub returns-clause-delivery : goal.returns-clause-delivery
returns-clause-delivery c = outcome_alike

pub returns-clause-left : goal.returns-clause-left
returns-clause-left c = left_alike
