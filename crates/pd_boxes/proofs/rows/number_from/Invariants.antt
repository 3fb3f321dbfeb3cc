use Rattle.std.proofs.Common.{◌≡◌, ◌≤◌, length}
use Rattle.pd_boxes.specs.Rows.{NumbersBetween}
use Rattle.pd_boxes.proofs.rows.number_from.Given as goal

abbrev pub invariant-loop-i : goal.invariant-loop-i
invariant-loop-i l = record {
  from : l.fn.number ≤ l.i;
  put : NumbersBetween l.fn.numbers.items l.numbers.items l.keys l.fn.number l.i;
  len : length l.numbers.items ≡ length l.fn.numbers.items;
}
