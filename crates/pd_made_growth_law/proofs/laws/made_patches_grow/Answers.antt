use Rattle.pd_made_growth_law.proofs.GrowLemmas.{made_grows}
use Rattle.pd_made_growth_law.proofs.laws.made_patches_grow.Goals as goal

pub returns : goal.returns
returns c = made_grows
