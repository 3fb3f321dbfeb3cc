use Rattle.slab.specs.Slab.{get}
use Rattle.pd_grove.proofs.ForestLemmas.{forest_stands, stands_told, canvas_stood}
use Rattle.pd_forest_law.proofs.AllLemmas.{all_told}
use Rattle.pd_forest_law.proofs.laws.forests_stand.Goals as goal

pub returns-clause-told : goal.returns-clause-told
returns-clause-told c = λ g F. forest_stands g F

pub returns-clause-once : goal.returns-clause-once
returns-clause-once c = λ g s t F G. stands_told g s t F G

pub returns-clause-all : goal.returns-clause-all
returns-clause-all c = λ g t F is. all_told (get g.nodes) (get g.boards) g.root F t is

pub returns-clause-canvas : goal.returns-clause-canvas
returns-clause-canvas c = λ nodes boards root n k b t F is low S. canvas_stood nodes boards root F n k b t is low S
