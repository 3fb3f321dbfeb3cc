use Rattle.pd_channels_law.proofs.GrowthLemmas.{sound_short, library_short}
use Rattle.pd_channels_law.proofs.laws.texts_are_short.Goals as goal

pub returns-clause-page : goal.returns-clause-page
returns-clause-page c = λ names p h. sound_short names p.boxes h.sound.1

pub returns-clause-library : goal.returns-clause-library
returns-clause-library c = library_short
