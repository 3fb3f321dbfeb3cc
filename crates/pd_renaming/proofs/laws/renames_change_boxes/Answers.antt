use Rattle.pd_renaming.proofs.PatchLemmas.{is_alike, is_changed}
use Rattle.pd_renaming.proofs.laws.renames_change_boxes.Goals as goal

pub returns-clause-alike : goal.returns-clause-alike
returns-clause-alike c = is_alike

pub returns-clause-changed : goal.returns-clause-changed
returns-clause-changed c = is_changed
