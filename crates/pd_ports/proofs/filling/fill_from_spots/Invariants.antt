use Rattle.std.proofs.Common.{◌≡◌, map, take, vec_len, vec_capacity}
use Rattle.pd_web.specs.Jacks.{spot_jack}
use Rattle.pd_web.specs.Sockets.{loose_ports}
use Rattle.pd_ports.proofs.filling.fill_from_spots.Given as goal

abbrev pub invariant-loop-spot : goal.invariant-loop-spot
invariant-loop-spot l = record {
  told : l.list.items ≡ loose_ports (map spot_jack (take l.spot-index l.spots));
  count : vec_len l.list ≡ l.spot-index;
  room : vec_capacity l.list ≡ vec_capacity l.fn.list;
}
