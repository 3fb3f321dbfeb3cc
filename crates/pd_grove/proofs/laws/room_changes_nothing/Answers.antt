use Rattle.pd_grove.proofs.RoomLemmas.{room_forest}
use Rattle.pd_grove.proofs.laws.room_changes_nothing.Goals as goal

pub returns : goal.returns
returns c = λ old new S F. room_forest old new S F
