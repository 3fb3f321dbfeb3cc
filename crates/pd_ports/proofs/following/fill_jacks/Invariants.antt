use Rattle.std.proofs.Common.{◌≡◌, map, take, vec_len, vec_capacity}
use Rattle.pd_web.specs.Jacks.{spot_jack}
use Rattle.pd_ports.proofs.following.fill_jacks.Given as goal

abbrev pub invariant-loop-spot : goal.invariant-loop-spot
invariant-loop-spot l = record {
  told : l.jacks.items ≡ map spot_jack (take l.spot-index l.spots);
  count : vec_len l.jacks ≡ l.spot-index;
  room : vec_capacity l.jacks ≡ vec_capacity l.fn.jacks;
}
