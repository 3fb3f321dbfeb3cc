use Rattle.pd_sound_law.proofs.ReadyLemmas.{ready_free}
use Rattle.pd_sound_law.proofs.laws.blocks_are_free.Goals as goal

pub returns : goal.returns
returns c = ready_free
