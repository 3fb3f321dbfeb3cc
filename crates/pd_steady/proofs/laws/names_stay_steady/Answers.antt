use Rattle.pd_steady.proofs.RunLemmas.{named_steady}
use Rattle.pd_steady.proofs.laws.names_stay_steady.Goals as goal

pub returns : goal.returns
returns c = named_steady
