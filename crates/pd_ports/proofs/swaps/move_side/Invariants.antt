use Rattle.std.proofs.Common.{◌≡◌, length}
use Rattle.pd_ports.proofs.RefitLemmas.{Moving}
use Rattle.pd_ports.proofs.swaps.move_side.Given as goal

abbrev pub invariant-loop-i : goal.invariant-loop-i
invariant-loop-i l = record {
  moving : Moving l.fn.old l.fn.own l.old l.own l.i;
  len : length l.own ≡ length l.fn.own;
  old_len : length l.old ≡ length l.fn.old;
}
