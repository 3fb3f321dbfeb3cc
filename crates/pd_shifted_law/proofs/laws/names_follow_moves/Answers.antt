use Rattle.pd_shifted_law.proofs.OwnerLemmas.{owners_stay}
use Rattle.pd_shifted_law.proofs.laws.names_follow_moves.Goals as goal

pub returns : goal.returns
returns c = λ old new path number x y b table file M H. owners_stay old new path number x y b table file M H
