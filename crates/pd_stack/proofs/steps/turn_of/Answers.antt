use Rattle.std.proofs.Common.{subst}
use Rattle.pd_stack.specs.declared.stack.Cursor.{Cursor}
use Rattle.pd_stack.specs.Piles.{Fits}
use Rattle.pd_stack.proofs.steps.turn_of.Goals as goal

pub returns-in-Wires-clause-fits : goal.returns-in-Wires-clause-fits
returns-in-Wires-clause-fits c = λ count below depth floor h.
    c.wire_turn.ensures.fits count below depth floor (subst (λ (k : Cursor). Fits count below depth k floor) c.in-Wires.is h)

pub returns-in-Owners-clause-fits : goal.returns-in-Owners-clause-fits
returns-in-Owners-clause-fits c = λ count below depth floor h.
    c.owner_turn.ensures.fits count below depth floor (subst (λ (k : Cursor). Fits count below depth k floor) c.in-Owners.is h)
