use Rattle.pd_atom.proofs.TokenLemmas.{settled_from}
use Rattle.pd_atom.proofs.LawLemmas.{settled_number, settled_comma}
use Rattle.pd_atom.proofs.laws.settled_laws.Goals as goal

pub returns-clause-same : goal.returns-clause-same
returns-clause-same c = λ names a h. settled_from names a a h

pub returns-clause-number : goal.returns-clause-number
returns-clause-number c = settled_number

pub returns-clause-comma : goal.returns-clause-comma
returns-clause-comma c = settled_comma
