use Rattle.pd_regrowth_law.proofs.TakeLemmas.{patch_small}
use Rattle.pd_regrowth_law.proofs.laws.patches_are_small.Goals as goal

pub returns : goal.returns
returns c = λ lib name p names n v t h. patch_small lib name p names n v t h
