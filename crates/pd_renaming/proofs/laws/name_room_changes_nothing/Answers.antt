use Rattle.pd_renaming.proofs.PatchLemmas.{rename_still}
use Rattle.pd_renaming.proofs.laws.name_room_changes_nothing.Goals as goal

pub returns : goal.returns
returns c = rename_still
