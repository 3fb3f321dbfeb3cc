use Rattle.pd_misfits.proofs.RoomLemmas.{refit_lasts}
use Rattle.pd_misfits.proofs.laws.room_lasts.Goals as goal

pub returns : goal.returns
returns c = refit_lasts
