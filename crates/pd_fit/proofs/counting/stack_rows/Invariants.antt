use Rattle.std.proofs.Common.{◌≡◌, ◌≤◌, ◌-◌, drop, length}
use Rattle.pd_tree.specs.Trees.{stands_in}
use Rattle.pd_fit.specs.Seeing.{views_of}
use Rattle.pd_fit.specs.Stacking.{stacked, wires_stacked}
use Rattle.pd_fit.proofs.counting.stack_rows.Given as goal

abbrev pub invariant-loop-i : goal.invariant-loop-i
invariant-loop-i l = record {
  within : l.i ≤ length l.rows;
  boxes : views_of l.stack.items ≡ stacked (stands_in (drop l.i l.rows));
  left : l.left ≡ 65537 - wires_stacked (stands_in (drop l.i l.rows));
}

abbrev pub decreases-loop-i : goal.decreases-loop-i
decreases-loop-i l = l.i
