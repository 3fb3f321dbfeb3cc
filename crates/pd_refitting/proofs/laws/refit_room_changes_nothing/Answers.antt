use Rattle.pd_refitting.proofs.RoomLemmas.{refit_still}
use Rattle.pd_refitting.proofs.laws.refit_room_changes_nothing.Goals as goal

pub returns : goal.returns
returns c = refit_still
