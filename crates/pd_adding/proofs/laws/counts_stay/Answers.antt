use Rattle.pd_adding.proofs.PatchLemmas.{wires_anew, counts_alike}
use Rattle.pd_adding.proofs.laws.counts_stay.Goals as goal

pub returns-clause-wires : goal.returns-clause-wires
returns-clause-wires c = wires_anew

pub returns-clause-alike : goal.returns-clause-alike
returns-clause-alike c = counts_alike
