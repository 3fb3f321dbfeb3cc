use Rattle.pd_web.proofs.CountLemmas.{joined_is_one_more, cut_is_one_less, same_are_as_many}
use Rattle.pd_web.proofs.laws.wires_are_counted.Goals as goal

pub returns-clause-joins : goal.returns-clause-joins
returns-clause-joins c = λ w w' key l fan_place feed_place joins. joined_is_one_more w w' key l fan_place feed_place joins

pub returns-clause-cuts : goal.returns-clause-cuts
returns-clause-cuts c = λ w w' key cuts was. cut_is_one_less w w' key cuts was

pub returns-clause-stays : goal.returns-clause-stays
returns-clause-stays c = λ w w' same. same_are_as_many w w' same
