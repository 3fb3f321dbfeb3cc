use Rattle.pd_ends_law.proofs.OnceLemmas.{standing_once}
use Rattle.pd_ends_law.proofs.laws.boxes_run_once.Goals as goal

pub returns : goal.returns
returns c = standing_once
