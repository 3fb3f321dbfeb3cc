use Rattle.pd_placing.proofs.ChangeLemmas.{changes_lacks, changes_canvas, changes_other, alike_all}
use Rattle.pd_placing.proofs.laws.orders_follow_what_changes.Goals as goal

pub returns-clause-lacks : goal.returns-clause-lacks
returns-clause-lacks x = λ g h l c k n before behind seeds rest orders O R o. changes_lacks g h l c k n before behind seeds rest O R orders o

pub returns-clause-canvas : goal.returns-clause-canvas
returns-clause-canvas x = λ g h l c k n before behind seeds rest orders O R same o. changes_canvas g h l c k n before behind seeds rest O R orders same o

pub returns-clause-others : goal.returns-clause-others
returns-clause-others x = λ g h l c k n before behind seeds rest orders d O R differ live o. changes_other g h l c k n before behind seeds rest O R orders d differ live o

pub returns-clause-alike : goal.returns-clause-alike
returns-clause-alike x = alike_all
