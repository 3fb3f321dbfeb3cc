use Rattle.std.proofs.Common.{◌-◌, vec_len}
use Rattle.pd_links.specs.Rows.{SameRows}
use Rattle.pd_links.proofs.rows.lengthen_to.Given as goal

abbrev pub invariant-loop-alloc : goal.invariant-loop-alloc
invariant-loop-alloc l = SameRows l.fn.rows.items l.rows.items

abbrev pub decreases-loop-alloc : goal.decreases-loop-alloc
decreases-loop-alloc l = l.end - vec_len l.rows
