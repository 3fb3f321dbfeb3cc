use Rattle.pd_ends_law.proofs.RunLemmas.{at_open, resumed_at-open, done_open, outcome_open, left_open}
use Rattle.pd_ends_law.proofs.laws.messages_run_no_block.Goals as goal

pub returns-clause-boxes : goal.returns-clause-boxes
returns-clause-boxes c = λ net now time names states node inlet selector atoms kinds a. record { each = at_open time net names states kinds a.each node now inlet selector atoms }

pub returns-clause-boxes_again : goal.returns-clause-boxes_again
returns-clause-boxes_again c = λ net time names states node kinds a. record { each = resumed_at-open time net names states kinds a.each node }

pub returns-clause-deed : goal.returns-clause-deed
returns-clause-deed c = λ net now time node d kept a. record { each = done_open time net now node d kept a.each }

pub returns-clause-delivery : goal.returns-clause-delivery
returns-clause-delivery c = λ net now time w s kinds a. record { each = outcome_open net now time w s kinds a.each }

pub returns-clause-left : goal.returns-clause-left
returns-clause-left c = λ net now time before after budget rest s old new kinds a left. record { each = left_open net now time before after budget rest s old new kinds a.each left }
