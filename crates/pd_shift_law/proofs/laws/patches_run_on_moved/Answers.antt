use Rattle.pd_shift_law.proofs.BuiltLemmas.{still_built}
use Rattle.pd_shift_law.proofs.laws.patches_run_on_moved.Goals as goal

pub returns : goal.returns
returns c = λ old new path number x y b M C names file rate B. still_built old new path number x y b M names file rate C B
