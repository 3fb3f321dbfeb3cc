use Rattle.std.proofs.Common.{arith}
use Rattle.pd_wiring.proofs.DepthLemmas.{path_deep}
use Rattle.pd_subpatches.proofs.laws.paths_are_depths.Goals as goal

pub returns : goal.returns
returns c = λ p path place P leads short. (let e = path_deep p.grove P.forest path place.canvas leads in omega (arith, e, short))
