use Rattle.pd_signal.proofs.keepers.run_line.Goals as goal

pub returns-in-Line-clause-ran : goal.returns-in-Line-clause-ran
returns-in-Line-clause-ran c = rw (c.in-Line.is, c.ramp.ensures.out, c.ramp.ensures.slope)
