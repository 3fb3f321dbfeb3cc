use Rattle.std.proofs.Common.{◌≡◌, ◌≤◌, drop, length}
use Rattle.pd_tree.specs.Trees.{stands_in}
use Rattle.pd_instances.specs.Needs.{needs_of, stacked}
use Rattle.pd_instances.proofs.needs.needs_of.Given as goal

abbrev pub invariant-loop-i : goal.invariant-loop-i
invariant-loop-i l = record {
  within : l.i ≤ length l.rows;
  stack : l.stack.items ≡ stacked (stands_in (drop l.i l.rows));
  needs : l.needs.items ≡ needs_of (stands_in (drop l.i l.rows));
}

abbrev pub decreases-loop-i : goal.decreases-loop-i
decreases-loop-i l = l.i
