use Rattle.std.proofs.Common.{arith, refl, length, ◌+◌}
use Rattle.pd_stack.proofs.sending.push_row.Goals as goal

pub returns-clause-lie : goal.returns-clause-lie
returns-clause-lie c = rw c.push.ensures (
  record {
    order = omega arith;
    within = c.requires.within;
    floor = c.requires.floor;
    fits = c.cursor_of-cursor.ensures.fits c.args.full (length c.args.stack.now.pendings) (c.args.depth + 1) c.args.floor (c.requires.full, omega arith, omega arith);
  },
  c.requires.lie,
)

pub returns-clause-left : goal.returns-clause-left
returns-clause-left c = λ tasks left. rw c.push.ensures
    (record { here = _; later = tasks; first = c.cursor_of-cursor.ensures.tasks _ _ _; then = left; is = refl })
