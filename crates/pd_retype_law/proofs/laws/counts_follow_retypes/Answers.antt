use Rattle.pd_retype_law.proofs.CaseLemmas.{both_boxes, both_next, both_sound}
use Rattle.pd_retype_law.proofs.CountLemmas.{as_many_wires}
use Rattle.pd_retype_law.proofs.laws.counts_follow_retypes.Goals as goal

pub returns-clause-boxes : goal.returns-clause-boxes
returns-clause-boxes c = λ old new n name path number text now k after steps steps' b t x can r h. both_boxes old new n name path number text now k after steps steps' b x can t r h

pub returns-clause-wires : goal.returns-clause-wires
returns-clause-wires c = as_many_wires

pub returns-clause-sound : goal.returns-clause-sound
returns-clause-sound c = λ old new n name path number text now k after steps steps' b t x can r h. both_sound old new n name path number text now k after steps steps' b x can t r h

pub returns-clause-next_zero : goal.returns-clause-next_zero
returns-clause-next_zero c = both_next
