use Rattle.pd_alike_law.proofs.OwnerLemmas.{opened_owners}
use Rattle.pd_alike_law.proofs.laws.opened_patches_own_alike.Goals as goal

pub returns : goal.returns
returns c = opened_owners
