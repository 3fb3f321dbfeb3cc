use Rattle.pd_regrowth_law.proofs.EditLemmas.{patch_opened, own_opened}
use Rattle.pd_regrowth_law.proofs.laws.grown_patches_regrow.Goals as goal

pub returns-clause-rewired : goal.returns-clause-rewired
returns-clause-rewired c = patch_opened

pub returns-clause-own : goal.returns-clause-own
returns-clause-own c = own_opened
