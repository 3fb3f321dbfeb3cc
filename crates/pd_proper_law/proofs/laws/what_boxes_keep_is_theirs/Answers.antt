use Rattle.pd_proper_law.proofs.SavableLemmas.{kinds_savable}
use Rattle.pd_proper_law.proofs.laws.what_boxes_keep_is_theirs.Goals as goal

pub returns : goal.returns
returns c = kinds_savable
