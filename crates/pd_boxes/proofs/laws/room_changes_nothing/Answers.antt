use Rattle.pd_boxes.proofs.RoomLemmas.{room_put, room_built}
use Rattle.pd_boxes.proofs.laws.room_changes_nothing.Goals as goal

pub returns-clause-can : goal.returns-clause-can
returns-clause-can c = λ p q S P. room_put p q S P

pub returns-clause-built : goal.returns-clause-built
returns-clause-built c = λ p q S names file rate b. room_built p q S names file rate b
