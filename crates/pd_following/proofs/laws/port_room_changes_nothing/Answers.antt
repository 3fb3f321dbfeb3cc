use Rattle.pd_following.proofs.ReserveLemmas.{room_port}
use Rattle.pd_following.proofs.laws.port_room_changes_nothing.Goals as goal

pub returns : goal.returns
returns c = room_port
