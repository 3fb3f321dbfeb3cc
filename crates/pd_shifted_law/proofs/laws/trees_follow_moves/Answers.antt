use Rattle.pd_shifted_law.proofs.CountLemmas.{tree_counts, weight_same, zeros_same}
use Rattle.pd_shifted_law.proofs.StandLemmas.{runs_shifted}
use Rattle.pd_shifted_law.proofs.laws.trees_follow_moves.Goals as goal

pub returns-clause-runs : goal.returns-clause-runs
returns-clause-runs c = λ old new path number x y b t M C R. runs_shifted old new path number x y b t M C R

pub returns-clause-boxes : goal.returns-clause-boxes
returns-clause-boxes c = λ path number x y t. weight_same path number x y t

pub returns-clause-sound : goal.returns-clause-sound
returns-clause-sound c = λ rate path number x y t. (tree_counts path number x y t).counts.sound rate

pub returns-clause-zeros : goal.returns-clause-zeros
returns-clause-zeros c = λ path number x y t. zeros_same path number x y t
