use Rattle.pd_keeping_law.specs.Changes.{said_by, nothing}
use Rattle.pd_keeping_law.proofs.ChangeLemmas.{message_said}
use Rattle.pd_keeping_law.proofs.RunLemmas.{kind_becomes, again_becomes, at_becomes, resumed_at-becomes, done_becomes, outcome_becomes, left_becomes}
use Rattle.pd_keeping_law.proofs.laws.messages_change_boxes.Goals as goal

pub returns-clause-hearing : goal.returns-clause-hearing
returns-clause-hearing c = λ names k s inlet selector atoms now table. kind_becomes (said_by names selector atoms) names s inlet selector atoms now table (message_said names selector atoms) k

pub returns-clause-again : goal.returns-clause-again
returns-clause-again c = again_becomes nothing

pub returns-clause-boxes : goal.returns-clause-boxes
returns-clause-boxes c = λ net now names states node inlet selector atoms. at_becomes (said_by names selector atoms) net names states node now inlet selector atoms (message_said names selector atoms)

pub returns-clause-boxes_again : goal.returns-clause-boxes_again
returns-clause-boxes_again c = resumed_at-becomes nothing

pub returns-clause-deed : goal.returns-clause-deed
returns-clause-deed c = done_becomes nothing

pub returns-clause-delivery : goal.returns-clause-delivery
returns-clause-delivery c = outcome_becomes

pub returns-clause-left : goal.returns-clause-left
returns-clause-left c = left_becomes
