use Rattle.pd_sliding.proofs.RoomLemmas.{still_slides}
use Rattle.pd_sliding.proofs.laws.route_room_changes_nothing.Goals as goal

pub returns : goal.returns
returns c = λ p q key holder side from S C. still_slides p q key holder side from S C
