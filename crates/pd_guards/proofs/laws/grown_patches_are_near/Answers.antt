use Rattle.pd_guards.proofs.NearLemmas.{patch_near}
use Rattle.pd_guards.proofs.laws.grown_patches_are_near.Goals as goal

pub returns : goal.returns
returns c = λ p names file rate step tree fresh. patch_near p names file rate step tree fresh
