use Rattle.pd_adding.proofs.SingleLemmas.{one_row, single_takes, plain_single, object_single}
use Rattle.pd_adding.proofs.laws.single_boxes.Goals as goal

pub returns-clause-rows : goal.returns-clause-rows
returns-clause-rows c = one_row

pub returns-clause-takes : goal.returns-clause-takes
returns-clause-takes c = single_takes

pub returns-clause-forms : goal.returns-clause-forms
returns-clause-forms c = plain_single

pub returns-clause-kinds : goal.returns-clause-kinds
returns-clause-kinds c = object_single
