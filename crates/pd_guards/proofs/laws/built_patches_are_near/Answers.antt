use Rattle.pd_guards.proofs.NearLemmas.{built_near}
use Rattle.pd_guards.proofs.laws.built_patches_are_near.Goals as goal

pub returns : goal.returns
returns c = built_near
