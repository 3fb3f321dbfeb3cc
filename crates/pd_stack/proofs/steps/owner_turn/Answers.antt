use Rattle.pd_stack.proofs.steps.owner_turn.Goals as goal

pub returns-in-None-clause-fits : goal.returns-in-None-clause-fits
returns-in-None-clause-fits c = λ count below depth floor h. c.unheard.ensures.fits count below depth floor
