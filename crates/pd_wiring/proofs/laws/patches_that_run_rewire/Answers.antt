use Rattle.pd_wiring.proofs.BuiltLemmas.{runs_rewire}
use Rattle.pd_wiring.proofs.laws.patches_that_run_rewire.Goals as goal

pub returns : goal.returns
returns c = runs_rewire
