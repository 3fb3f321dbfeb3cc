use Rattle.pd_sized.proofs.TurnLemmas.{own_whole, line_whole, fits_whole, pair_whole}
use Rattle.pd_sized.proofs.laws.turns_are_whole.Goals as goal

pub returns-clause-own : goal.returns-clause-own
returns-clause-own c = own_whole

pub returns-clause-line : goal.returns-clause-line
returns-clause-line c = line_whole

pub returns-clause-fits : goal.returns-clause-fits
returns-clause-fits c = fits_whole

pub returns-clause-pair : goal.returns-clause-pair
returns-clause-pair c = pair_whole
