use Rattle.std.proofs.Common.{◌≡◌, length, drop}
use Rattle.pd_list.specs.Slots.{filled}
use Rattle.pd_list.proofs.slots.fill.Given as goal

abbrev pub invariant-loop-i : goal.invariant-loop-i
invariant-loop-i l = record {
  filled : filled l.slots l.i (drop l.i l.atoms) l.kept ≡ filled l.slots 0 l.atoms l.fn.kept;
  length : length l.kept ≡ length l.fn.kept;
}
