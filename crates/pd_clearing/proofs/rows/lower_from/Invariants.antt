use Rattle.std.proofs.Common.{◌≡◌, ◌+◌, ◌≤◌, ℕ, Some, slice_get}
use Rattle.pd_boxes.specs.Rows.{NumbersBetween}
use Rattle.pd_clearing.proofs.rows.lower_from.Given as goal

abbrev pub invariant-loop-i : goal.invariant-loop-i
invariant-loop-i l = record {
  from : l.fn.number ≤ l.i;
  put : NumbersBetween l.fn.numbers.items l.numbers.items l.keys l.fn.number l.i;
  later : (j k : ℕ) → l.i ≤ j → slice_get l.keys j ≡ Some k → slice_get l.numbers.items k ≡ Some (j + 1);
}
