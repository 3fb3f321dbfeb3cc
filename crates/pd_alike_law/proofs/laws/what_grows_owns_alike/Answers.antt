use Rattle.pd_alike_law.proofs.NameLemmas.{grown_alike}
use Rattle.pd_alike_law.proofs.laws.what_grows_owns_alike.Goals as goal

pub returns : goal.returns
returns c = grown_alike
