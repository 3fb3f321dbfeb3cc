use Rattle.pd_regrowth_law.proofs.SplitLemmas.{grown_splits}
use Rattle.pd_regrowth_law.proofs.laws.growth_splits.Goals as goal

pub returns : goal.returns
returns c = grown_splits
