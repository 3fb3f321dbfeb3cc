use Rattle.pd_regrowth_law.proofs.FillLemmas.{message_regrows, array_regrows, refilled_regrows, patch_refilled}
use Rattle.pd_regrowth_law.proofs.ToggleLemmas.{toggle_regrows}
use Rattle.pd_regrowth_law.proofs.laws.contents_regrow.Goals as goal

pub returns-clause-whole : goal.returns-clause-whole
returns-clause-whole c = refilled_regrows

pub returns-clause-message : goal.returns-clause-message
returns-clause-message c = message_regrows

pub returns-clause-array : goal.returns-clause-array
returns-clause-array c = array_regrows

pub returns-clause-toggle : goal.returns-clause-toggle
returns-clause-toggle c = toggle_regrows

pub returns-clause-patch : goal.returns-clause-patch
returns-clause-patch c = patch_refilled
