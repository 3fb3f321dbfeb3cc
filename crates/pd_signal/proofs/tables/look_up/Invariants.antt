use Rattle.std.proofs.Common.{◌≡◌, map, ◌++◌, take, drop, length}
use Rattle.pd_signal.specs.Tables.{value_at}
use Rattle.pd_signal.proofs.tables.look_up.Given as goal

abbrev pub invariant-loop-i : goal.invariant-loop-i
invariant-loop-i l = record {
  out : take l.i l.out ++ map (value_at l.table) (drop l.i l.x) ≡ map (value_at l.table) l.x;
  len : length l.out ≡ 64;
}
