use Rattle.pd_ends_law.proofs.BlockLemmas.{others_open}
use Rattle.pd_ends_law.proofs.laws.other_boxes_run_no_block.Goals as goal

pub returns : goal.returns
returns c = λ net start time levels canvas k p none a. others_open net start time k levels p canvas none a
