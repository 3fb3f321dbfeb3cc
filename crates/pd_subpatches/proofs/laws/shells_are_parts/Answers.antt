use Rattle.slab.specs.Slab.{get}
use Rattle.pd_boxes.specs.Put.{keys_before, keys_behind}
use Rattle.pd_subpatches.proofs.PartLemmas.{comes_as_part, stands_as_box, comes_fresh}
use Rattle.pd_subpatches.proofs.laws.shells_are_parts.Goals as goal

pub returns-clause-part : goal.returns-clause-part
returns-clause-part c = λ p q table place s key P I.
    let C = I.comes in
    comes_as_part (get p.grove.nodes) (get q.grove.nodes) (get p.grove.boards) (get q.grove.boards) p.grove.root place.canvas key C.canvas s C.board
    (keys_before p place) (keys_behind p place) C.grove P.forest

pub returns-clause-stands : goal.returns-clause-stands
returns-clause-stands c = λ p q table place s key I.
    let C = I.comes in
    stands_as_box (get p.grove.nodes) (get q.grove.nodes) (get p.grove.boards) (get q.grove.boards) p.grove.root place.canvas key C.canvas s C.board
    (keys_before p place) (keys_behind p place) C.grove

pub returns-clause-fresh : goal.returns-clause-fresh
returns-clause-fresh c = λ p q table place s key rate now I.
    let C = I.comes in
    comes_fresh (get p.grove.nodes) (get q.grove.nodes) (get p.grove.boards) (get q.grove.boards) p.grove.root place.canvas key C.canvas s C.board
    (keys_before p place) (keys_behind p place) C.grove rate now
