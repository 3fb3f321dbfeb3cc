use Rattle.pd_take_law.proofs.DeletedLemmas.{box_gone, cleared_went}
use Rattle.pd_take_law.proofs.GoneLemmas.{wires_gone}
use Rattle.pd_take_law.proofs.laws.deletes_take_boxes.Goals as goal

pub returns-clause-tree : goal.returns-clause-tree
returns-clause-tree c = box_gone

pub returns-clause-wires : goal.returns-clause-wires
returns-clause-wires c = λ old new n table path number steps steps' b X C meet.
    wires_gone old new path b.canvas b.key number X.cleared.part (cleared_went old new n table path number steps steps' b X C) C
