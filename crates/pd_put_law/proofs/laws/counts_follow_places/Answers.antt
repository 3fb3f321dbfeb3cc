use Rattle.pd_put_law.proofs.PutLemmas.{more_boxes, more_sound, more_wires}
use Rattle.pd_put_law.proofs.laws.counts_follow_places.Goals as goal

pub returns-clause-boxes : goal.returns-clause-boxes
returns-clause-boxes c = λ old new number n name path now e k after b t x can r h. more_boxes old new number n name path now e k after b x can t r h

pub returns-clause-wires : goal.returns-clause-wires
returns-clause-wires c = more_wires

pub returns-clause-sound : goal.returns-clause-sound
returns-clause-sound c = λ old new number n name path now e k after b t x can r h. more_sound old new number n name path now e k after b x can t r h
