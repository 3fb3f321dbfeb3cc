use Rattle.pd_atom.proofs.LawLemmas.{settled_extended}
use Rattle.pd_atom.proofs.laws.tables_extended.Goals as goal

pub returns-clause-settled : goal.returns-clause-settled
returns-clause-settled c = settled_extended
