use Rattle.pd_turning.proofs.RoomLemmas.{HasRoomTo}
use Rattle.pd_turning.proofs.reserving.reserve_links.Given as goal

abbrev pub invariant-loop-place : goal.invariant-loop-place
invariant-loop-place l = HasRoomTo l.wires l.fn.links l.links l.place
