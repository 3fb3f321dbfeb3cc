use Rattle.pd_sound_law.proofs.ReadyLemmas.{planted_few}
use Rattle.pd_sound_law.proofs.laws.grown_patches_have_few_channels.Goals as goal

pub returns : goal.returns
returns c = planted_few
