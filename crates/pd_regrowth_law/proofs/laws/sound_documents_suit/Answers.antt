use Rattle.pd_regrowth_law.proofs.SuitLemmas.{texts_of_sound, none_of_sound}
use Rattle.pd_regrowth_law.proofs.laws.sound_documents_suit.Goals as goal

pub returns-clause-texts : goal.returns-clause-texts
returns-clause-texts c = texts_of_sound

pub returns-clause-none : goal.returns-clause-none
returns-clause-none c = none_of_sound
