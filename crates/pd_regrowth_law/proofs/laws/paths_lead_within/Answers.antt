use Rattle.pd_regrowth_law.proofs.PathLemmas.{path_within}
use Rattle.pd_regrowth_law.proofs.laws.paths_lead_within.Goals as goal

pub returns : goal.returns
returns c = path_within
