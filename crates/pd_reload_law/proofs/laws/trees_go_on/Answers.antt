use Rattle.pd_reload_law.proofs.StayLemmas.{grove_stays}
use Rattle.pd_reload_law.proofs.laws.trees_go_on.Goals as goal

pub returns : goal.returns
returns c = grove_stays
