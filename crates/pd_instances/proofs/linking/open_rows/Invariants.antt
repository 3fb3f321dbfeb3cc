use Rattle.std.proofs.Common.{◌≡◌, ◌≤◌, length, take}
use Rattle.pd_instances.proofs.RowLemmas.{OpensFrom}
use Rattle.pd_instances.proofs.linking.open_rows.Given as goal

abbrev pub invariant-loop-i : goal.invariant-loop-i
invariant-loop-i l = record {
  within : l.i ≤ length l.keys;
  opens : OpensFrom l.fn.links l.links l.keys l.fn.rooms.items l.i;
  rooms : l.rooms.items ≡ take l.i l.fn.rooms.items;
}

abbrev pub decreases-loop-i : goal.decreases-loop-i
decreases-loop-i l = l.i
