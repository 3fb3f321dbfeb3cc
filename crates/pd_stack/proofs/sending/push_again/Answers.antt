use Rattle.std.proofs.Common.{arith, refl, [], ◌∷◌}
use Rattle.pd_stack.specs.Tasks.{Resume}
use Rattle.pd_stack.proofs.sending.push_again.Goals as goal

pub returns-clause-lie : goal.returns-clause-lie
returns-clause-lie c = rw c.push.ensures
    (record { order = omega arith; within = c.requires.order; floor = c.requires.order; fits = (c.requires.few, c.requires.room, c.requires.depth) }, c.requires.lie)

pub returns-clause-room : goal.returns-clause-room
returns-clause-room c = rw c.push.ensures (omega arith)

pub returns-clause-left : goal.returns-clause-left
returns-clause-left c = λ net tasks left. rw (c.if-not-is_again.false, c.push.ensures)
    (record { here = Resume c.args.depth c.args.node ∷ []; later = tasks; first = refl; then = left; is = refl })

pub returns-then-not-is_again-clause-left : goal.returns-then-not-is_again-clause-left
returns-then-not-is_again-clause-left c = λ net tasks left. rw c.if-not-is_again.true left
