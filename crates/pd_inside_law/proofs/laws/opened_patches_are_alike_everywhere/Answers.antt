use Rattle.pd_inside_law.proofs.SameLemmas.{same_everywhere}
use Rattle.pd_inside_law.proofs.laws.opened_patches_are_alike_everywhere.Goals as goal

pub returns : goal.returns
returns c = same_everywhere
