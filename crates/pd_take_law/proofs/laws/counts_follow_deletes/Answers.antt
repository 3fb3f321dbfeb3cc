use Rattle.pd_take_law.proofs.DeletedLemmas.{box_gone, boxes_count, counts_within, sound_counts, wires_counted, zeros_counted}
use Rattle.pd_take_law.proofs.SavedLemmas.{no_deeper}
use Rattle.pd_take_law.proofs.laws.counts_follow_deletes.Goals as goal

pub returns-clause-boxes : goal.returns-clause-boxes
returns-clause-boxes c = λ old new n table path number steps steps' b t D C R e. boxes_count old new n table path number steps steps' b D t C R e

pub returns-clause-wires : goal.returns-clause-wires
returns-clause-wires c = wires_counted

pub returns-clause-sound : goal.returns-clause-sound
returns-clause-sound c = λ old new n table path number steps steps' b t D C R e. sound_counts old new n table path number steps steps' b D t C R e

pub returns-clause-next_zero : goal.returns-clause-next_zero
returns-clause-next_zero c = zeros_counted

pub returns-clause-within : goal.returns-clause-within
returns-clause-within c = counts_within

pub returns-clause-deep : goal.returns-clause-deep
returns-clause-deep c = λ old new n table path number steps steps' b t D C R. no_deeper old new path b.canvas b.key number (box_gone old new n table path number steps steps' b D C) t R
