use Rattle.pd_placing.proofs.ChangeLemmas.{goes_canvas, goes_other, goes_all, goes_leaf}
use Rattle.pd_placing.proofs.laws.orders_follow_what_goes.Goals as goal

pub returns-clause-canvas : goal.returns-clause-canvas
returns-clause-canvas x = λ g h l c k n before behind orders O T o. goes_canvas g h l c k n before behind O T orders o

pub returns-clause-others : goal.returns-clause-others
returns-clause-others x = λ g h l c k n before behind orders d O T differ none o. goes_other g h l c k n before behind O T orders d differ none o

pub returns-clause-all : goal.returns-clause-all
returns-clause-all x = λ g h l c k n before behind orders O T lacks none others. goes_all g h l c k n before behind O T orders lacks none others

pub returns-clause-leaf : goal.returns-clause-leaf
returns-clause-leaf x = λ g h l c k n before behind orders O T leaf o. goes_leaf g h l c k n before behind O T orders leaf o
