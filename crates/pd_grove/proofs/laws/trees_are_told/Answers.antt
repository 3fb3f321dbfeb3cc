use Rattle.pd_grove.proofs.PlaceLemmas.{path_leads, canvas_box}
use Rattle.pd_grove.proofs.SubLemmas.{sub_path_leads}
use Rattle.pd_grove.proofs.laws.trees_are_told.Goals as goal

pub returns-clause-places : goal.returns-clause-places
returns-clause-places c = λ g s t G path.
    path_leads g path g.root (record { sheet = s; boxes = t }) (record { holder = _; depth = 0; keys = G.keys; board = G.root; stands = G.stands })

pub returns-clause-boxes : goal.returns-clause-boxes
returns-clause-boxes c = λ g k u C n. canvas_box g k u C n

pub returns-clause-own : goal.returns-clause-own
returns-clause-own c = λ g s t G path.
    sub_path_leads g path g.root (record { sheet = s; boxes = t }) (record { holder = _; depth = 0; keys = G.keys; board = G.root; stands = G.stands })
