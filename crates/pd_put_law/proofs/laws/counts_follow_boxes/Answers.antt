use Rattle.pd_putting.specs.Adds.{next_number}
use Rattle.pd_put_law.proofs.LastLemmas.{adds_at, last_boxes, last_sound}
use Rattle.pd_put_law.proofs.PutLemmas.{more_wires}
use Rattle.pd_put_law.proofs.laws.counts_follow_boxes.Goals as goal

pub returns-clause-boxes : goal.returns-clause-boxes
returns-clause-boxes c = λ old new n name path now e k after b t x can r h. last_boxes old new n name path now e k after b x can t r h

pub returns-clause-wires : goal.returns-clause-wires
returns-clause-wires c = λ old new n name path now e k after b x. more_wires old new (next_number old x.added) n name path now e k after b (adds_at old new n name path now e k after b x)

pub returns-clause-sound : goal.returns-clause-sound
returns-clause-sound c = λ old new n name path now e k after b t x can r h. last_sound old new n name path now e k after b x can t r h
