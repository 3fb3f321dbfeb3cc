use Rattle.std.proofs.Common.{◌≡◌, take, vec_len, vec_capacity}
use Rattle.pd_ports.specs.Moves.{moved_ports}
use Rattle.pd_ports.proofs.taking.take_ports.Given as goal

abbrev pub invariant-loop-i : goal.invariant-loop-i
invariant-loop-i l = record {
  told : l.list.items ≡ moved_ports l.old (take l.i l.jacks);
  count : vec_len l.list ≡ l.i;
  room : vec_capacity l.list ≡ vec_capacity l.fn.room;
}
