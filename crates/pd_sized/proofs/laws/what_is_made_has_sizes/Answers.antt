use Rattle.pd_sized.proofs.StartLemmas.{made_sized, grown_sized}
use Rattle.pd_sized.proofs.FreshLemmas.{grown_whole}
use Rattle.pd_sized.proofs.laws.what_is_made_has_sizes.Goals as goal

pub returns-clause-made : goal.returns-clause-made
returns-clause-made c = made_sized

pub returns-clause-grown : goal.returns-clause-grown
returns-clause-grown c = grown_sized

pub returns-clause-patches : goal.returns-clause-patches
returns-clause-patches c = grown_whole
