use Rattle.std.proofs.Common.{◌≡◌, map, vec_len, vec_capacity}
use Rattle.pd_web.specs.Jacks.{plain_jack, marks}
use Rattle.pd_web.specs.Sockets.{loose_ports}
use Rattle.pd_ports.proofs.filling.fill_inlets.Given as goal

abbrev pub invariant-loop-i : goal.invariant-loop-i
invariant-loop-i l = record {
  told : l.list.items ≡ loose_ports (map plain_jack (marks l.own.signal_inlets l.i));
  count : vec_len l.list ≡ l.i;
  room : vec_capacity l.list ≡ vec_capacity l.fn.list;
}
