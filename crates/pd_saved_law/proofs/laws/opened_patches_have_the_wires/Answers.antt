use Rattle.pd_saved_law.proofs.WireLemmas.{reopened}
use Rattle.pd_saved_law.proofs.laws.opened_patches_have_the_wires.Goals as goal

pub returns : goal.returns
returns c = reopened
