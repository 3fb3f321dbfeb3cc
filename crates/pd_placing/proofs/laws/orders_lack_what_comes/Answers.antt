use Rattle.pd_placing.proofs.ChangeLemmas.{comes_canvas, comes_other, comes_all, comes_leaf}
use Rattle.pd_placing.proofs.laws.orders_lack_what_comes.Goals as goal

pub returns-clause-canvas : goal.returns-clause-canvas
returns-clause-canvas x = λ g h l c k before behind orders O P o. comes_canvas g h l c k before behind O P orders o

pub returns-clause-others : goal.returns-clause-others
returns-clause-others x = λ g h l c k before behind orders d O P differ none o. comes_other g h l c k before behind O P orders d differ none o

pub returns-clause-all : goal.returns-clause-all
returns-clause-all x = λ g h l c k before behind orders O P none o. comes_all g h l c k before behind O P orders none o

pub returns-clause-leaf : goal.returns-clause-leaf
returns-clause-leaf x = λ g h l c k before behind orders root O P F leaf o. comes_leaf g h l c k before behind O P orders root F leaf o
