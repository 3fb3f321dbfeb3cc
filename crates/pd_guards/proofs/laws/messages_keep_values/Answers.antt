use Rattle.pd_guards.proofs.RunLemmas.{kind_sounds, again_sounds, at_sounds, resumed_at-sounds, done_sounds, outcome_sounds, left_sounds}
use Rattle.pd_guards.proofs.laws.messages_keep_values.Goals as goal

pub returns-clause-hearing : goal.returns-clause-hearing
returns-clause-hearing c = λ names k s inlet selector atoms now table first m h. kind_sounds names k s inlet selector atoms now table m h

pub returns-clause-again : goal.returns-clause-again
returns-clause-again c = again_sounds

pub returns-clause-boxes : goal.returns-clause-boxes
returns-clause-boxes c = λ net now names states node inlet selector atoms first m a. at_sounds net now names states node inlet selector atoms m a

pub returns-clause-boxes_again : goal.returns-clause-boxes_again
returns-clause-boxes_again c = resumed_at-sounds

pub returns-clause-deed : goal.returns-clause-deed
returns-clause-deed c = done_sounds

pub returns-clause-delivery : goal.returns-clause-delivery
returns-clause-delivery c = outcome_sounds

pub returns-clause-left : goal.returns-clause-left
returns-clause-left c = left_sounds
