use Rattle.pd_ends_law.proofs.OpenLemmas.{first_open, grown_open}
use Rattle.pd_ends_law.proofs.laws.what_is_made_has_run_no_block.Goals as goal

pub returns-clause-made : goal.returns-clause-made
returns-clause-made c = λ rate now time. first_open rate now time

pub returns-clause-grown : goal.returns-clause-grown
returns-clause-grown c = λ p rate now time fresh. record { each = grown_open p rate now time fresh }
