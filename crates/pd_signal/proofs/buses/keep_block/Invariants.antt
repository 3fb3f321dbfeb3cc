use Rattle.std.proofs.Common.{◌≡◌, ◌++◌, take, drop, length}
use Rattle.pd_signal.proofs.buses.keep_block.Given as goal

abbrev pub invariant-loop-i : goal.invariant-loop-i
invariant-loop-i l = record {
  kept : take l.i l.kept ++ drop l.i l.x ≡ l.x;
  len : length l.kept ≡ 64;
}
