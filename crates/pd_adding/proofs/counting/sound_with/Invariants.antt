use Rattle.std.proofs.Common.{◌≡◌, ◌≤◌, ◌+◌, take}
use Rattle.pd_patch.specs.Sounds.{sound_in}
use Rattle.pd_adding.proofs.counting.sound_with.Given as goal

abbrev pub invariant-loop-row : goal.invariant-loop-row
invariant-loop-row l = record {
  sum : l.total ≡ l.sound + sound_in l.rate (take l.row-index l.rows);
  few : l.total ≤ 16777216;
}
