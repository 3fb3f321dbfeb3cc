use Rattle.pd_wiring.proofs.AlikeLemmas.{rewires_alike}
use Rattle.pd_wiring.proofs.laws.rewiring_asks_alike.Goals as goal

pub returns : goal.returns
returns c = rewires_alike
