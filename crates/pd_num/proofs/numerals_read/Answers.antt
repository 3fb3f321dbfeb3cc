use Rattle.pd_num.proofs.ReadLemmas.{number_found, number_at-spelling}
use Rattle.pd_num.proofs.numerals_read.Goals as goal

pub returns-clause-each : goal.returns-clause-each
returns-clause-each c = number_at-spelling

pub returns-clause-found : goal.returns-clause-found
returns-clause-found c = number_found
